use Rattle.std.proofs.Common.{◌≡◌, length}
use Rattle.zq_egress.specs.Exits.{undone_by}
use Rattle.zq_egress.proofs.through.undo_each.Given as goal

abbrev pub invariant-loop-exit : goal.invariant-loop-exit
invariant-loop-exit l = undone_by l.exits.items l.handed l.gates.entries ≡ undone_by l.fn.exits.items l.handed l.fn.gates.entries

abbrev pub decreases-loop-exit : goal.decreases-loop-exit
decreases-loop-exit l = length l.exits.items
