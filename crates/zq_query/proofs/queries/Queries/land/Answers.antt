use Rattle.std.specs.List.{cons_option}
use Rattle.zq_query.specs.declared.records.Final.{Final}
use Rattle.std.proofs.Common.{Option, [], ◌≡◌, ◌∙◌, sym, ap, None, List, false}
use Rattle.std.specs.Option.{is_some}
use Rattle.zq_query.specs.Tables.{at_number, records_of}
use Rattle.zq_query.specs.Records.{ending_landed, QueryState, Record, any_over, is_in_flight, landing, over_after_reply}
use Rattle.zq_query.proofs.Entries.{flying_is}
use Rattle.zq_query.proofs.Letting.{only_landed, carrier, settled, tied_landed, below_landed, records_landed, final_landed}
use Rattle.zq_query.proofs.Flying.{landing_none}
use Rattle.zq_query.proofs.Fusion.{none_over}
use Rattle.zq_query.proofs.queries.Queries.land.Goals as goal

pub invariant_of-self : goal.invariant_of-self
invariant_of-self c = rw (c.in_default.ensures.unchanged) c.self.invariant

pub returns-in_default-clause-absent : goal.returns-in_default-clause-absent
returns-in_default-clause-absent c =
    let i = c.self.inside in
    let is : at_number c.args.reply i.replies.entries ≡ None = sym c.remove.ensures.value ∙ c.in_default.is in
    ap (λ (s : QueryState). is_in_flight c.args.reply s.records) (sym c.self.view_is)
    ∙ sym (flying_is c.args.reply i.heads.entries i.pending.entries i.dues.entries i.replies.entries c.self.invariant.0)
    ∙ ap is_some is

pub returns-in_default-clause-none : goal.returns-in_default-clause-none
returns-in_default-clause-none c = rw (c.in_default.ensures.unchanged) c.self.view_is

pub returns-in_default-clause-records : goal.returns-in_default-clause-records
returns-in_default-clause-records c =
    let i = c.self.inside in
    let s = c.args.self.now in
    let left : any_over s.records ≡ false = ap (λ (z : QueryState). any_over z.records) (sym c.self.view_is) ∙ none_over i.heads.entries i.pending.entries i.dues.entries i.replies.entries c.self.invariant.0 in
    returns-in_default-clause-none c
    ∙ ap (λ (l : List Record). record s { records = l }) (sym (landing_none c.args.reply s.records (returns-in_default-clause-absent c) left))

pub returns-clause-there : goal.returns-clause-there
returns-clause-there c =
    let i = c.self.inside in
    ap (λ (s : QueryState). is_in_flight c.args.reply s.records) (sym c.self.view_is)
    ∙ sym (flying_is c.args.reply i.heads.entries i.pending.entries i.dues.entries i.replies.entries c.self.invariant.0)
    ∙ ap is_some (sym c.in-Some.ensures.value)

pub fly_less-left-requires : goal.fly_less-left-requires
fly_less-left-requires c =
    let i = c.self.inside in
    carrier i.heads.entries i.pending.entries i.dues.entries i.replies.entries c.self.invariant.0 c.args.reply c.in-Some.number (sym c.in-Some.ensures.value)

pub invariant_of-self-2 : goal.invariant_of-self-2
invariant_of-self-2 c =
    let i = c.self.inside in
    let n = c.in-Some.number in
    let left = c.fly_less-left.result in
    let heads = c.settle.ensures.heads ∙ ap (settled n left) c.fly_less-left.ensures.heads in
    let is = sym c.in-Some.ensures.value in
    let less = c.fly_less-left.ensures.left in
    rw (heads, c.remove.ensures.entries) (
      tied_landed i.heads.entries i.pending.entries i.dues.entries i.replies.entries c.self.invariant.0 c.args.reply n is left less,
      below_landed i.heads.entries i.pending.entries i.dues.entries i.replies.entries c.self.invariant.0 c.args.reply n is left less i.requests i.next_reply c.self.invariant.1,
      c.self.invariant.2,
    )

pub returns-clause-records : goal.returns-clause-records
returns-clause-records c =
    let i = c.self.inside in
    let n = c.in-Some.number in
    let left = c.fly_less-left.result in
    let heads = c.settle.ensures.heads ∙ ap (settled n left) c.fly_less-left.ensures.heads in
    let shown : List Record → QueryState = λ l. record { records = l; last_ids = i.last_ids.entries; closed = i.closed.keys; requests = i.requests; replies = i.next_reply; request_ids = i.request_ids } in
    ap shown ((λ j. records_of (heads j) i.pending.entries (c.remove.ensures.entries j))
    ∙ sym (records_landed i.heads.entries i.pending.entries i.dues.entries i.replies.entries c.self.invariant.0 c.args.reply n (sym c.in-Some.ensures.value) left c.fly_less-left.ensures.left))
    ∙ ap (λ (s : QueryState). record s { records = landing c.args.reply s.records }) c.self.view_is

pub returns-clause-over : goal.returns-clause-over
returns-clause-over c =
    let i = c.self.inside in
    let n = c.in-Some.number in
    let left = c.fly_less-left.result in
    c.settle.ensures.over
    ∙ sym (final_landed i.heads.entries i.pending.entries i.dues.entries i.replies.entries c.self.invariant.0 c.args.reply n (sym c.in-Some.ensures.value) left c.fly_less-left.ensures.left)
    ∙ ap (over_after_reply c.args.reply) (ap (λ (s : QueryState). s.records) c.self.view_is)

pub returns-clause-only : goal.returns-clause-only
returns-clause-only c =
    let i = c.self.inside in
    let n = c.in-Some.number in
    let left = c.fly_less-left.result in
    ap (λ (q : Option Final). cons_option q []) (returns-clause-over c)
    ∙ ap (λ (s : QueryState). cons_option (over_after_reply c.args.reply s.records) []) (sym c.self.view_is)
    ∙ sym (only_landed i.heads.entries i.pending.entries i.dues.entries i.replies.entries c.self.invariant.0 c.args.reply n (sym c.in-Some.ensures.value) left c.fly_less-left.ensures.left)
    ∙ ap (λ (s : QueryState). ending_landed c.args.reply s.records) c.self.view_is
