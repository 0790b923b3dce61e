use Rattle.std.proofs.Common.{◌≢◌, arith}
use Rattle.std.specs.Map.Iter.{deref_pair}
use Rattle.std.proofs.lemmas.List.{map_push}
use Rattle.std.proofs.lemmas.Map.Iter.{iter_end}
use Rattle.zq_message.specs.Region.{region_index}
use Rattle.zq_message.proofs.Ends.{turn_parts}
use Rattle.zq_message.proofs.Others.{without-push, AreIndices-without}
use Rattle.zq_message.proofs.map.RegionMap.partition.Goals as goal

pub loop-i-preserved-in-Continue-1 : goal.loop-i-preserved-in-Continue-1
loop-i-preserved-in-Continue-1 g c =
    let gives = c.into_iter-i-iterator.ensures.into_iter_gives in
    let parts = turn_parts deref_pair _ _ _ _ _ _ _ gives.0 c.loop-i.yielded_by c.in-Some-2.is c.next.ensures.steps in
    let other : c.in-Some-2.i.now ≢ region_index c.args.r.now = omega arith in
    rw (c.in_ok-put.ensures, map_push deref_pair) (without-push c.self.inside.entries.entries _ _ _ _ _ _ gives.5 parts c.loop-i.invariant other)

pub invariant_of-result : goal.invariant_of-result
invariant_of-result g c =
    let gives = c.into_iter-i-iterator.ensures.into_iter_gives in
    let ended = iter_end deref_pair c.self.inside.entries.entries _ _ _ _ _ gives.0 c.loop-i.yielded_by c.in-None.is c.next.ensures.steps in
    AreIndices-without c.self.inside.entries.entries _ c.args.r.now (rw (← ended.0) c.loop-i.invariant) c.self.invariant
