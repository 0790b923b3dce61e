use Rattle.std.proofs.Common.{◌≡◌, drop, fold}
use Rattle.std.specs.Prelude.{option_copied}
use Rattle.std.specs.List.{filter}
use Rattle.zq_egress.specs.Askers.{asker_of}
use Rattle.zq_machine.specs.Selecting.{passes}
use Rattle.zq_route.specs.Selection.{is_complete, nearer}
use Rattle.zq_kept.proofs.pick.nearest_of.Given as goal

abbrev pub invariant-loop-offer : goal.invariant-loop-offer
invariant-loop-offer l = fold nearer (option_copied l.found) (filter is_complete (filter (passes (asker_of l.asker)) (drop l.offer-index l.offers))) ≡ fold nearer (option_copied l.before) (filter is_complete (filter (passes (asker_of l.asker)) l.offers))
