use Rattle.std.proofs.Common.{◌∙◌, sym, subst}
use Rattle.zq_interests.specs.Interests.{Interests}
use Rattle.zq_interests.specs.Kept.{AreKept, Shelf}
use Rattle.zq_interests.proofs.Keeping.{kept_same, kept_without}
use Rattle.zq_interests.proofs.kept.end_kept.Goals as goal

pub returns-in-Some-clause-kept : goal.returns-in-Some-clause-kept
returns-in-Some-clause-kept c =
    let after : Shelf = c.take.new.self in
    subst (λ (es : Interests). AreKept es after) (sym c.end_interest.ensures.after)
    (kept_without c.args.faces.now.entries c.args.shelf.now c.requires c.args.face c.args.id c.in-Some.gone after (sym c.in-Some.is ∙ c.end_interest.ensures.before) c.take.ensures)

pub returns-in-None-clause-kept : goal.returns-in-None-clause-kept
returns-in-None-clause-kept c =
    let shelf : Shelf = c.args.shelf.now in
    subst (λ (es : Interests). AreKept es shelf) (sym c.end_interest.ensures.after)
    (kept_same c.args.faces.now.entries shelf c.requires c.args.face c.args.id (sym c.in-None.is ∙ c.end_interest.ensures.before))
