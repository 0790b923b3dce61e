use Rattle.std.proofs.Common.{◌≡◌, ◌∙◌, sym, ap, Some, None, true≢false}
use Rattle.std.specs.Option.{is_some, option_copied}
use Rattle.zq_query.specs.Tables.{at_place, at_number}
use Rattle.zq_query.specs.Records.{QueryState, owner}
use Rattle.zq_query.proofs.Putting.{owner_is, no_owner}
use Rattle.zq_query.proofs.queries.Queries.owner.Goals as goal

pub returns-in_default : goal.returns-in_default
returns-in_default c =
    let i = c.self.inside in
    let is : at_place (c.args.face, c.args.id) i.pending.entries ≡ None = sym c.get.ensures.value ∙ ap option_copied c.in_default.is in
    sym (no_owner c.args.face c.args.id i.heads.entries i.pending.entries i.replies.entries is) ∙ ap (λ (s : QueryState). owner c.args.face c.args.id s.records) c.self.view_is

pub returns-in_default-get : goal.returns-in_default-get
returns-in_default-get c =
    let i = c.self.inside in
    let is : at_place (c.args.face, c.args.id) i.pending.entries ≡ Some c.in-Some.owed.now = sym c.in-Some.ensures.value in
    let none : at_number c.in-Some.owed.now.number i.heads.entries ≡ None = sym c.get-2.ensures ∙ c.in_default-get.is in
    absurd (true≢false (sym (c.self.invariant.0.owned (c.args.face, c.args.id) c.in-Some.owed.now is) ∙ ap is_some none))

pub returns : goal.returns
returns c =
    let i = c.self.inside in
    sym (owner_is i.heads.entries i.pending.entries i.dues.entries i.replies.entries c.self.invariant.0 c.args.face c.args.id c.in-Some.owed.now c.in-Some-get.open (sym c.in-Some.ensures.value) (sym c.in-Some-get.ensures))
    ∙ ap (λ (s : QueryState). owner c.args.face c.args.id s.records) c.self.view_is
