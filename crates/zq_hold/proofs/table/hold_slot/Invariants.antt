use Rattle.zq_hold.proofs.table.hold_slot.Given as goal

abbrev pub ghosts-hold_named : goal.ghosts-hold_named
ghosts-hold_named a = record { slot = a.slot.0 }
