use Rattle.std.proofs.Common.{◌≡◌, fold}
use Rattle.zq_route.specs.Selection.{with_kept}
use Rattle.zq_route.proofs.selection.add_kept.Given as goal

abbrev pub ghost-add_if_kept : goal.ghost-add_if_kept
ghost-add_if_kept g a = g.test

abbrev pub invariant-loop-offer : goal.invariant-loop-offer
invariant-loop-offer g l = l.route ≡ fold (with_kept g.test l.target) l.initial.route l.yielded
