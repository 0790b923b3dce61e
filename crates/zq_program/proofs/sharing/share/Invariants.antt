use Rattle.std.proofs.Common.{Some}
use Rattle.zq_program.specs.Shares.{all_calls}
use Rattle.zq_program.proofs.sharing.share.Given as goal

abbrev pub ghosts-share_named-H-Home : goal.ghosts-share_named-H-Home
ghosts-share_named-H-Home g a = record { config = a.shared.stored.config; holds = a.shared.slots.keeper.home; list = Some (all_calls a.parts.items) }

abbrev pub ghosts-share_named-C-Ledger : goal.ghosts-share_named-C-Ledger
ghosts-share_named-C-Ledger g a = record { name = a.blanks.0.name; parts = a.blanks.0.parts }

abbrev pub ghosts-share_named-Q-Ledger : goal.ghosts-share_named-Q-Ledger
ghosts-share_named-Q-Ledger g a = record { name = a.blanks.1.name; parts = a.blanks.1.parts }

abbrev pub ghosts-share_named-P-Ledger : goal.ghosts-share_named-P-Ledger
ghosts-share_named-P-Ledger g a = record { name = a.blanks.2.name; parts = a.blanks.2.parts }
