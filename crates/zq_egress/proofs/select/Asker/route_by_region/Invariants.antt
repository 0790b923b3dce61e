use Rattle.std.proofs.Common.{◌≡◌, [], map}
use Rattle.std.specs.List.{filter, flat_map}
use Rattle.zq_route.specs.Selection.{chosen, with_offers}
use Rattle.zq_machine.specs.Selecting.{passes}
use Rattle.zq_egress.specs.Askers.{asker_of}
use Rattle.zq_egress.proofs.select.Asker.route_by_region.Given as goal

abbrev pub invariant-loop-offers : goal.invariant-loop-offers
invariant-loop-offers l = l.route ≡ with_offers [] (flat_map (chosen l.target) (map (filter (passes (asker_of l.self))) l.yielded))
