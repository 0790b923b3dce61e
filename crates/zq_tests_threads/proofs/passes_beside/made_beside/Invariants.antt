use Rattle.std.proofs.Common.{length}
use Rattle.zq_pass.specs.Passes.{home_of}
use Rattle.zq_tests_threads.proofs.passes_beside.made_beside.Given as goal

abbrev pub ghosts-made_by-H-PassHome : goal.ghosts-made_by-H-PassHome
ghosts-made_by-H-PassHome g a = record { config = a.new.0.sharing.stored.config; home = home_of a.new.0 }

abbrev pub ghosts-made_by-M-Ledger : goal.ghosts-made_by-M-Ledger
ghosts-made_by-M-Ledger g a = record { name = a.blank.name; parts = a.blank.parts }
