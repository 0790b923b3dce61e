use Rattle.std.proofs.Common.{length}
use Rattle.zq_pass.specs.Passes.{home_of}
use Rattle.zq_tests_threads.proofs.passes_ring.ended.Given as goal

abbrev pub ghosts-in_ring-H-PassHome : goal.ghosts-in_ring-H-PassHome
ghosts-in_ring-H-PassHome g a = record { config = a.new.0.sharing.stored.config; home = home_of a.new.0 }

abbrev pub ghosts-in_ring-M-Ledger : goal.ghosts-in_ring-M-Ledger
ghosts-in_ring-M-Ledger g a = record { name = a.blank.name; parts = a.blank.parts }
