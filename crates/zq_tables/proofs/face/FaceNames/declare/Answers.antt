use Rattle.std.proofs.Common.{◌≡◌, Some, sym, subst}
use Rattle.zq_tables.specs.FaceIds.{FaceIds, next_id}
use Rattle.zq_tables.proofs.IdLemmas.{IsFace-declared, next_unused}
use Rattle.zq_tables.proofs.face.FaceNames.declare.Goals as goal

pub invariant_of-self-2 : goal.invariant_of-self-2
invariant_of-self-2 c =
    let F : FaceIds → Type 0 = λ (f : FaceIds). next_id f.theirs f.ours ≡ Some c.args.id in
    rw c.in_ok-put.ensures.ok (IsFace-declared c.self.inside.theirs c.self.inside.ours c.self.inside.free c.args.id c.args.node.0 (subst F (sym c.self.view_is) c.requires) c.self.invariant)

pub put-requires : goal.put-requires
put-requires c =
    let F : FaceIds → Type 0 = λ (f : FaceIds). next_id f.theirs f.ours ≡ Some c.args.id in
    next_unused c.self.inside.theirs c.self.inside.ours c.args.id (subst F (sym c.self.view_is) c.requires)
