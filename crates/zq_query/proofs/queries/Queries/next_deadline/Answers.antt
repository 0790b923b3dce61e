use Rattle.std.proofs.Common.{◌≡◌, ◌∙◌, sym, ap, subst, true≢false, [], ◌==◌}
use Rattle.std.specs.Cmp.{nat_eq_equiv}
use Rattle.std.specs.Option.{is_some}
use Rattle.zq_query.specs.Tables.{Place}
use Rattle.zq_query.specs.Records.{QueryState, Pending, has_deadline, has_earlier, owes_any}
use Rattle.zq_query.proofs.Fusion.{an_entry, none_earlier, owes_none, nil_from}
use Rattle.zq_query.specs.Orderly.{IsOrderly}
use Rattle.zq_query.proofs.Orderliness.{orderly}
use Rattle.zq_query.proofs.queries.Queries.next_deadline.Goals as goal

pub returns-in-Some-clause-there : goal.returns-in-Some-clause-there
returns-in-Some-clause-there c =
    let i = c.self.inside in
    let due : Place = c.in-Some.due.now in
    let is = c.self.invariant.0.entry due c.in-Some.field-0-1.now c.in-Some.ensures.value in
    sym (ap (λ (s : QueryState). has_deadline due.0 s.records) c.self.view_is) ∙ an_entry (λ (e : Pending). e.deadline == due.0) i.heads.entries i.pending.entries i.dues.entries i.replies.entries c.self.invariant.0 is.0.0 is.0.1 (record { number = due.1; deadline = due.0 }) is.1 (nat_eq_equiv.refl due.0)

pub returns-in-Some-clause-least : goal.returns-in-Some-clause-least
returns-in-Some-clause-least c =
    let i = c.self.inside in
    let due : Place = c.in-Some.due.now in
    sym (ap (λ (s : QueryState). has_earlier due.0 s.records) c.self.view_is) ∙ none_earlier i.heads.entries i.pending.entries i.dues.entries i.replies.entries c.self.invariant.0 due (λ q ps is. c.in-Some.ensures.least q (ap is_some is))

pub returns-in-None-clause-none : goal.returns-in-None-clause-none
returns-in-None-clause-none c =
    let i = c.self.inside in
    let empty : i.dues.entries ≡ [] = nil_from i.dues.entries (λ l. true≢false (sym (c.first_key_value.ensures.variant.1 l) ∙ ap is_some c.in-None.is)) in
    sym (ap (λ (s : QueryState). owes_any s.records) c.self.view_is) ∙ owes_none i.heads.entries i.pending.entries i.dues.entries i.replies.entries c.self.invariant.0 empty

pub returns-in-Some-clause-orderly : goal.returns-in-Some-clause-orderly
returns-in-Some-clause-orderly c =
    let i = c.self.inside in
    subst (λ s. IsOrderly s) c.self.view_is
    (orderly i.heads.entries i.pending.entries i.dues.entries i.replies.entries c.self.invariant.0 i.requests i.next_reply c.self.invariant.1 i.last_ids.entries i.closed.keys i.request_ids)

pub returns-in-None-clause-orderly : goal.returns-in-None-clause-orderly
returns-in-None-clause-orderly c =
    let i = c.self.inside in
    subst (λ s. IsOrderly s) c.self.view_is
    (orderly i.heads.entries i.pending.entries i.dues.entries i.replies.entries c.self.invariant.0 i.requests i.next_reply c.self.invariant.1 i.last_ids.entries i.closed.keys i.request_ids)
