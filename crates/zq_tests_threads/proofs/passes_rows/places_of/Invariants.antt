use Rattle.std.proofs.Common.{length}
use Rattle.zq_pass.specs.Passes.{home_of}
use Rattle.zq_tests_threads.proofs.passes_rows.places_of.Given as goal

abbrev pub ghosts-in_turn-H-PassHome : goal.ghosts-in_turn-H-PassHome
ghosts-in_turn-H-PassHome g a = record { config = a.new.0.sharing.stored.config; home = home_of a.new.0 }

abbrev pub ghosts-in_turn-M-Ledger : goal.ghosts-in_turn-M-Ledger
ghosts-in_turn-M-Ledger g a = record { name = a.blank.name; parts = a.blank.parts }
