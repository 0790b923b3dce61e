use Rattle.std.proofs.Common.{◌≡◌, None, fold}
use Rattle.std.specs.Prelude.{option_to_list}
use Rattle.zq_route.proofs.Nearest.{with_nearer}
use Rattle.zq_route.proofs.overall.nearest.Given as goal

abbrev pub ghost-is_best : goal.ghost-is_best
ghost-is_best g a = g.test

abbrev pub invariant-loop-offer : goal.invariant-loop-offer
invariant-loop-offer g l = l.kept.items ≡ option_to_list (fold (with_nearer g.test) None l.yielded)
