use Rattle.std.proofs.Common.{◌≡◌}
use Rattle.zq_message.specs.Region.{region_index}
use Rattle.zq_message.specs.RegionMap.{GoByIndex}
use Rattle.zq_dispatcher.specs.Own.{has_other_routing}
use Rattle.zq_dispatcher.proofs.telling.has_other_routing.Given as goal

abbrev pub invariant-loop-other : goal.invariant-loop-other
invariant-loop-other l = record {
  can : (goal.iterator-loop-other).can_next l.other-iterator;
  ends : (goal.iterator-loop-other).is_finite l.other-iterator;
  ordered : GoByIndex l.hats;
  rest : has_other_routing (region_index l.region) l.other-iterator ≡ has_other_routing (region_index l.region) l.hats;
}
