use Rattle.std.proofs.Common.{◌≡◌, length}
use Rattle.zq_egress.specs.Exits.{left_by}
use Rattle.zq_egress.proofs.through.put_each.Given as goal

abbrev pub invariant-loop-exit : goal.invariant-loop-exit
invariant-loop-exit l = left_by l.exits.items l.handed.items ≡ left_by l.fn.exits.items l.fn.handed.items

abbrev pub decreases-loop-exit : goal.decreases-loop-exit
decreases-loop-exit l = length l.exits.items
