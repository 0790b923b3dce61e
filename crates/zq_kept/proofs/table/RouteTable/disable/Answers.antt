use Rattle.std.proofs.Common.{◌≡◌, arith, ◌<◌, ◌+◌, length}
use Rattle.std.proofs.lemmas.List.{get_or_default}
use Rattle.zq_kept.proofs.Places.{raised}
use Rattle.zq_kept.proofs.table.RouteTable.disable.Goals as goal

pub invariant_of-self-2 : goal.invariant_of-self-2
invariant_of-self-2 g c =
    let n : length c.self.inside.versions.items ≡ 770 = c.self.invariant.all in
    let b = c.region_to_index-i.ensures.bound in
    let i = c.region_to_index-i.result in
    let inside : i < length c.self.inside.versions.items = omega (arith, n, b) in
    let read = c.index-version.ensures in
    let same = get_or_default c.self.inside.versions.items i c.index-version.result.now 0 inside in
    raised _ _ i (c.index-version.result.now + 1) inside (omega (arith, read, same)) c.self.invariant
