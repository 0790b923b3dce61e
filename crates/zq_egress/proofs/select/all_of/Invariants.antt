use Rattle.std.proofs.Common.{◌≡◌}
use Rattle.zq_route.specs.Selection.{joined}
use Rattle.zq_egress.proofs.select.all_of.Given as goal

abbrev pub invariant-loop-offers : goal.invariant-loop-offers
invariant-loop-offers l = l.all.items ≡ joined l.yielded
