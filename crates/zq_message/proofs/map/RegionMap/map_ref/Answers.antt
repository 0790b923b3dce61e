use Rattle.std.proofs.Common.{refl}
use Rattle.std.specs.Map.Iter.{deref_pair}
use Rattle.std.specs.Fn.{FnReturnsAt}
use Rattle.std.proofs.lemmas.List.{map_push}
use Rattle.std.proofs.lemmas.Map.Iter.{iter_end}
use Rattle.zq_message.proofs.Ends.{turn_parts, MapsEach-push, AreIndices-MapsEach}
use Rattle.zq_message.proofs.map.RegionMap.map_ref.Goals as goal

pub loop-i-preserved : goal.loop-i-preserved
loop-i-preserved g c =
    let gives = c.into_iter-i-iterator.ensures.into_iter_gives in
    let parts = turn_parts deref_pair _ _ _ _ _ _ _ gives.0 c.loop-i.yielded_by c.in-Some.is c.next.ensures.steps in
    (c.loop-i.invariant.0, rw (c.in_ok-put.ensures, map_push deref_pair) (MapsEach-push (FnReturnsAt g.F.Fn c.args.f) c.self.inside.entries.entries _ _ _ _ _ _ gives.5 parts c.loop-i.invariant.1 (record { shown = c.in-Some.d; shows = refl; says = record { met = c.f.ensures } })))

pub invariant_of-result : goal.invariant_of-result
invariant_of-result g c =
    let gives = c.into_iter-i-iterator.ensures.into_iter_gives in
    let ended = iter_end deref_pair c.self.inside.entries.entries _ _ _ _ _ gives.0 c.loop-i.yielded_by c.in-None.is c.next.ensures.steps in
    let maps = c.loop-i.invariant.1 in
    AreIndices-MapsEach (FnReturnsAt g.F.Fn c.args.f) c.self.inside.entries.entries _ (rw (← ended.0) maps) c.self.invariant
