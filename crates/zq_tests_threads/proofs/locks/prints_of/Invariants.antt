use Rattle.std.proofs.Common.{None}
use Rattle.zq_tests_threads.proofs.locks.prints_of.Given as goal

abbrev pub ghosts-two_callers-H-Home : goal.ghosts-two_callers-H-Home
ghosts-two_callers-H-Home g a = record { config = a.shared.stored.config; holds = a.shared.slots.keeper.home; list = None }

abbrev pub ghosts-two_callers-C-Ledger : goal.ghosts-two_callers-C-Ledger
ghosts-two_callers-C-Ledger g a = record { name = a.blanks.0.name; parts = a.blanks.0.parts }

abbrev pub ghosts-two_callers-Q-Ledger : goal.ghosts-two_callers-Q-Ledger
ghosts-two_callers-Q-Ledger g a = record { name = a.blanks.1.name; parts = a.blanks.1.parts }

abbrev pub ghosts-two_callers-P-Ledger : goal.ghosts-two_callers-P-Ledger
ghosts-two_callers-P-Ledger g a = record { name = a.blanks.2.name; parts = a.blanks.2.parts }
