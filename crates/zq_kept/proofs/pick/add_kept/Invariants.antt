use Rattle.std.proofs.Common.{◌≡◌, fold, drop}
use Rattle.zq_egress.specs.Askers.{asker_of}
use Rattle.zq_machine.specs.Selecting.{passes}
use Rattle.zq_route.specs.Selection.{with_kept}
use Rattle.zq_kept.proofs.pick.add_kept.Given as goal

abbrev pub invariant-loop-offer : goal.invariant-loop-offer
invariant-loop-offer l = fold (with_kept (passes (asker_of l.asker)) l.target) l.route (drop l.offer-index l.offers) ≡ fold (with_kept (passes (asker_of l.asker)) l.target) l.initial.route l.offers
