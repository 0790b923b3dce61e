use Rattle.std.proofs.Common.{◌≡◌, [], drop, map}
use Rattle.std.specs.List.{filter, flat_map}
use Rattle.zq_egress.specs.Askers.{asker_of}
use Rattle.zq_machine.specs.Selecting.{passes}
use Rattle.zq_route.specs.Selection.{chosen, with_offers}
use Rattle.zq_kept.specs.Picked.{lists_of}
use Rattle.zq_kept.proofs.pick.route_by_region.Given as goal

abbrev pub invariant-loop-list : goal.invariant-loop-list
invariant-loop-list l = with_offers l.route (flat_map (chosen l.target) (map (filter (passes (asker_of l.asker))) (lists_of (drop l.list-index l.lists)))) ≡ with_offers [] (flat_map (chosen l.target) (map (filter (passes (asker_of l.asker))) (lists_of l.lists)))
