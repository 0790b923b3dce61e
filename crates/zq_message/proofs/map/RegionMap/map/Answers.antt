use Rattle.std.proofs.Common.{ℕ, sym}
use Rattle.std.proofs.lemmas.List.{map-id}
use Rattle.std.proofs.lemmas.Map.Iter.{iter_end}
use Rattle.zq_message.proofs.Ends.{turn_parts, MapsEach-push, AreIndices-MapsEach}
use Rattle.zq_message.proofs.map.RegionMap.map.Goals as goal

pub loop-i-preserved : goal.loop-i-preserved
loop-i-preserved g c =
    let gives = c.into_iter-i-iterator.ensures.into_iter_gives in
    let parts = turn_parts (λ (x : ℕ × g.row.D.Denot). x) _ _ _ _ _ _ _ gives.0 c.loop-i.yielded_by c.in-Some.is c.next.ensures.steps in
    (c.loop-i.invariant.0, rw c.in_ok-put.ensures (MapsEach-push (λ d e. g.F.Fn.post c.args.f (d, tt) e) c.self.inside.entries.entries _ _ _ _ _ _ gives.5 (rw map-id at parts) c.loop-i.invariant.1 c.f.ensures))

pub invariant_of-result : goal.invariant_of-result
invariant_of-result g c =
    let gives = c.into_iter-i-iterator.ensures.into_iter_gives in
    let ended = iter_end (λ (x : ℕ × g.row.D.Denot). x) c.self.inside.entries.entries _ _ _ _ _ gives.0 c.loop-i.yielded_by c.in-None.is c.next.ensures.steps in
    let maps = c.loop-i.invariant.1 in
    AreIndices-MapsEach (λ d e. g.F.Fn.post c.args.f (d, tt) e) c.self.inside.entries.entries _ (rw (sym ended.0, map-id) maps) c.self.invariant
