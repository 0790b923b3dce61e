use Rattle.std.specs.List.{cons_option}
use Rattle.zq_query.specs.declared.records.Final.{Final}
use Rattle.std.proofs.Common.{Option, [], ◌≡◌, ◌∙◌, sym, ap, None, List}
use Rattle.std.specs.Option.{is_some}
use Rattle.zq_query.specs.Tables.{at_place, records_of}
use Rattle.zq_query.specs.Records.{ending_after, QueryState, Record, is_pending, is_entry, letting_go, over_after}
use Rattle.zq_query.proofs.Entries.{pending_is}
use Rattle.zq_query.proofs.Letting.{only_let_go, head, settled, tied_let_go, below_let_go, records_let_go, final_let_go}
use Rattle.zq_query.proofs.Fusion.{letting_none}
use Rattle.zq_query.proofs.Rising.{rising_without}
use Rattle.zq_query.proofs.queries.Queries.let_go.Goals as goal

pub invariant_of-self : goal.invariant_of-self
invariant_of-self c = rw (c.in_default.ensures.unchanged) c.self.invariant

pub returns-in_default-clause-absent : goal.returns-in_default-clause-absent
returns-in_default-clause-absent c =
    let i = c.self.inside in
    let is : at_place (c.args.face, c.args.id) i.pending.entries ≡ None = sym c.remove.ensures.value ∙ c.in_default.is in
    ap (λ (s : QueryState). is_pending c.args.face c.args.id s.records) (sym c.self.view_is)
    ∙ sym (pending_is c.args.face c.args.id i.heads.entries i.pending.entries i.dues.entries i.replies.entries c.self.invariant.0)
    ∙ ap is_some is

pub returns-in_default-clause-none : goal.returns-in_default-clause-none
returns-in_default-clause-none c = rw (c.in_default.ensures.unchanged) c.self.view_is

pub returns-in_default-clause-records : goal.returns-in_default-clause-records
returns-in_default-clause-records c =
    let i = c.self.inside in
    let none = ap (λ (s : QueryState). is_pending c.args.face c.args.id s.records) c.self.view_is ∙ returns-in_default-clause-absent c in
    let shown : List Record → QueryState = λ l. record { records = l; last_ids = i.last_ids.entries; closed = i.closed.keys; requests = i.requests; replies = i.next_reply; request_ids = i.request_ids } in
    returns-in_default-clause-none c ∙ sym c.self.view_is
    ∙ ap shown (sym (letting_none i.heads.entries i.pending.entries i.dues.entries i.replies.entries c.self.invariant.0 c.args.face c.args.id none))
    ∙ ap (λ (s : QueryState). record s { records = letting_go (is_entry c.args.face c.args.id) s.records }) c.self.view_is

pub returns-clause-there : goal.returns-clause-there
returns-clause-there c =
    let i = c.self.inside in
    ap (λ (s : QueryState). is_pending c.args.face c.args.id s.records) (sym c.self.view_is)
    ∙ sym (pending_is c.args.face c.args.id i.heads.entries i.pending.entries i.dues.entries i.replies.entries c.self.invariant.0)
    ∙ ap is_some (sym c.in-Some.ensures.value)

pub owe_less-left-requires : goal.owe_less-left-requires
owe_less-left-requires c =
    let i = c.self.inside in
    head i.heads.entries i.pending.entries i.dues.entries i.replies.entries c.self.invariant.0 c.args.face c.args.id c.in-Some.owed (sym c.in-Some.ensures.value)

pub invariant_of-self-2 : goal.invariant_of-self-2
invariant_of-self-2 c =
    let i = c.self.inside in
    let v = c.in-Some.owed in
    let left = c.owe_less-left.result in
    let heads = c.settle.ensures.heads ∙ ap (settled v.number left) c.owe_less-left.ensures.heads in
    let is = sym c.in-Some.ensures.value in
    let less = c.owe_less-left.ensures.left in
    rw (heads, c.remove.ensures.entries, c.due_less.ensures) (
      tied_let_go i.heads.entries i.pending.entries i.dues.entries i.replies.entries c.self.invariant.0 c.args.face c.args.id v is left less,
      below_let_go i.heads.entries i.pending.entries i.dues.entries i.replies.entries c.self.invariant.0 c.args.face c.args.id v is left less i.requests i.next_reply c.self.invariant.1,
      rising_without i.rising i.pending.entries i.last_ids.entries (c.args.face, c.args.id) c.self.invariant.0.places c.self.invariant.2,
    )

pub returns-clause-records : goal.returns-clause-records
returns-clause-records c =
    let i = c.self.inside in
    let v = c.in-Some.owed in
    let left = c.owe_less-left.result in
    let heads = c.settle.ensures.heads ∙ ap (settled v.number left) c.owe_less-left.ensures.heads in
    let shown : List Record → QueryState = λ l. record { records = l; last_ids = i.last_ids.entries; closed = i.closed.keys; requests = i.requests; replies = i.next_reply; request_ids = i.request_ids } in
    ap shown ((λ j. records_of (heads j) (c.remove.ensures.entries j) i.replies.entries)
    ∙ sym (records_let_go i.heads.entries i.pending.entries i.dues.entries i.replies.entries c.self.invariant.0 c.args.face c.args.id v (sym c.in-Some.ensures.value) left c.owe_less-left.ensures.left))
    ∙ ap (λ (s : QueryState). record s { records = letting_go (is_entry c.args.face c.args.id) s.records }) c.self.view_is

pub returns-clause-over : goal.returns-clause-over
returns-clause-over c =
    let i = c.self.inside in
    let v = c.in-Some.owed in
    let left = c.owe_less-left.result in
    c.settle.ensures.over
    ∙ sym (final_let_go i.heads.entries i.pending.entries i.dues.entries i.replies.entries c.self.invariant.0 c.args.face c.args.id v (sym c.in-Some.ensures.value) left c.owe_less-left.ensures.left)
    ∙ ap (over_after (is_entry c.args.face c.args.id)) (ap (λ (s : QueryState). s.records) c.self.view_is)

pub returns-clause-only : goal.returns-clause-only
returns-clause-only c =
    let i = c.self.inside in
    let v = c.in-Some.owed in
    let left = c.owe_less-left.result in
    ap (λ (q : Option Final). cons_option q []) (returns-clause-over c)
    ∙ ap (λ (s : QueryState). cons_option (over_after (is_entry c.args.face c.args.id) s.records) []) (sym c.self.view_is)
    ∙ sym (only_let_go i.heads.entries i.pending.entries i.dues.entries i.replies.entries c.self.invariant.0 c.args.face c.args.id v (sym c.in-Some.ensures.value) left c.owe_less-left.ensures.left)
    ∙ ap (λ (s : QueryState). ending_after (is_entry c.args.face c.args.id) s.records) c.self.view_is
