use Rattle.std.proofs.Common.{◌≡◌, ◌∙◌, List, sym, ap, subst, Some, false}
use Rattle.std.specs.List.{AllByRecursion}
use Rattle.zq_query.specs.declared.records.Timeout.{Timeout}
use Rattle.zq_query.specs.Records.{QueryState, Record, request, final_of, any_over, any_entry, letting_go_all}
use Rattle.zq_query.specs.Polling.{timing_out, timeouts, dues_at, lacks_record, is_amiss}
use Rattle.zq_query.specs.DueEntries.{live_until}
use Rattle.zq_query.proofs.Dues.{none_amiss}
use Rattle.zq_query.proofs.Fusion.{none_over}
use Rattle.zq_query.proofs.Flying.{timing_none_over, entries_stay}
use Rattle.zq_query.proofs.TimingOut.{have_records, due_let_go}
use Rattle.zq_query.proofs.Ids.{each_alone}
use Rattle.zq_query.proofs.Quiet.{poll_quiet}
use Rattle.zq_query.proofs.queries.Queries.poll_planned.Goals as goal

pub put_timeouts-requires-clause-there : goal.put_timeouts-requires-clause-there
put_timeouts-requires-clause-there c =
    let s = c.args.self.now in
    ap (lacks_record s.records) c.requires.list ∙ have_records s (dues_at c.args.now s.records)

pub returns-clause-after : goal.returns-clause-after
returns-clause-after c =
    let s = c.args.self.now in
    let i = c.self.inside in
    let now = c.args.now in
    let ts : List Timeout = timeouts now s in
    let put : c.put_timeouts.new.self ≡ timing_out ts s = c.in_ok-put_timeouts.ensures.ok ∙ ap (λ (l : List Timeout). timing_out l s) c.requires.list in
    let left : any_over s.records ≡ false = ap (λ (z : QueryState). any_over z.records) (sym c.self.view_is) ∙ none_over i.heads.entries i.pending.entries i.dues.entries i.replies.entries c.self.invariant.0 in
    let places = c.as_slice.result.now in
    let amiss =
    entries_stay (is_amiss places now) ts s
    ∙ ap (λ l. any_entry (is_amiss l now) s.records) (c.as_slice.ensures.value ∙ c.in_ok-places.ensures)
    ∙ ap (λ (z : QueryState). any_entry (is_amiss (live_until now i.requests i.pending.entries i.dues.entries) now) z.records) (sym c.self.view_is)
    ∙ none_amiss i.heads.entries i.pending.entries i.dues.entries i.replies.entries c.self.invariant.0 now i.next_reply i.requests c.self.invariant.1 in
    c.drop_all.ensures
    ∙ ap (λ (z : QueryState). record z { records = letting_go_all z.records places }) put
    ∙ ap (λ (l : List Record). record (timing_out ts s) { records = l }) (due_let_go places now (timing_out ts s).records (timing_none_over ts s left) amiss)

pub returns-clause-quiet : goal.returns-clause-quiet
returns-clause-quiet c =
    let s = c.args.self.now in
    let i = c.self.inside in
    let left : any_over s.records ≡ false = ap (λ (z : QueryState). any_over z.records) (sym c.self.view_is) ∙ none_over i.heads.entries i.pending.entries i.dues.entries i.replies.entries c.self.invariant.0 in
    poll_quiet c.args.now s left
    (subst (λ (z : QueryState). AllByRecursion (λ r. request r.number z.records ≡ Some (final_of r)) z.records) c.self.view_is (each_alone i.heads.entries i.pending.entries i.dues.entries i.replies.entries c.self.invariant.0))
