use Rattle.std.proofs.Common.{◌∙◌, sym, subst}
use Rattle.zq_interests.specs.Interests.{Interests}
use Rattle.zq_interests.specs.Kept.{AreKept, Shelf}
use Rattle.zq_interests.proofs.Keeping.{kept_absent, kept_closed}
use Rattle.zq_interests.proofs.kept.close_kept.Goals as goal

pub returns-in-Some-clause-kept : goal.returns-in-Some-clause-kept
returns-in-Some-clause-kept c =
    let after : Shelf = c.leave.new.shelf in
    subst (λ (es : Interests). AreKept es after) (sym c.close_face.ensures.after)
    (kept_closed c.args.faces.now.entries c.args.shelf.now c.requires c.args.face c.in-Some.asked after (sym c.in-Some.is ∙ c.close_face.ensures.before) c.leave.ensures)

pub returns-in-None-clause-kept : goal.returns-in-None-clause-kept
returns-in-None-clause-kept c =
    let shelf : Shelf = c.args.shelf.now in
    subst (λ (es : Interests). AreKept es shelf) (sym c.close_face.ensures.after)
    (kept_absent c.args.faces.now.entries shelf c.requires c.args.face (sym c.in-None.is ∙ c.close_face.ensures.before))
