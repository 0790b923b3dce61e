use Rattle.std.proofs.Common.{◌≡◌, ◌-◌, sym, subst, arith}
use Rattle.zq_tables.specs.FaceIds.{FaceIds, free_from}
use Rattle.zq_tables.proofs.IdLemmas.{next_start, next_found, next_more, next_none}
use Rattle.zq_tables.proofs.face.FaceNames.get_next_local_id.Goals as goal

pub loop-id-init : goal.loop-id-init
loop-id-init c =
    let free = c.self.inside.free in
    let F : FaceIds → Type 0 = λ (f : FaceIds). free_from f.theirs f.ours 65535 1 ≡ free_from f.theirs f.ours (65536 - free) free in
    subst F c.self.view_is (next_start c.self.inside.theirs c.self.inside.ours free c.self.invariant (omega arith))

pub returns-then-not-is_used : goal.returns-then-not-is_used
returns-then-not-is_used c = next_found _ _ _ c.loop-id-test.true c.loop-id.invariant (sym c.if-not-is_used.ensures)

pub loop-id-preserved : goal.loop-id-preserved
loop-id-preserved c = next_more _ _ _ c.loop-id-test.true c.loop-id.invariant (sym c.if-not-is_used.ensures)

pub returns-else-not-is_used : goal.returns-else-not-is_used
returns-else-not-is_used c = next_none _ _ _ (omega arith) c.loop-id.invariant (sym c.if-not-is_used.ensures)
