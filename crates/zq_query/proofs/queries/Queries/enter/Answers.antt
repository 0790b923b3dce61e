use Rattle.std.proofs.Common.{◌∙◌, ◌+◌, ℕ, ap, List}
use Rattle.std.specs.Map.{remove_entry}
use Rattle.std.specs.BTreeMap.{is_at, insert_entry}
use Rattle.std.specs.Ordering.{nat_cmp}
use Rattle.zq_query.specs.declared.queries.Open.{Open}
use Rattle.std.specs.Prelude.{◌&&◌}
use Rattle.zq_query.specs.Tables.{place_cmp, records_of, all_rise}
use Rattle.zq_query.specs.Records.{QueryState}
use Rattle.zq_query.specs.Asking.{asking_at, any_pending, giving}
use Rattle.zq_query.proofs.Keys.{place_total, place_exact}
use Rattle.zq_query.proofs.Owing.{undone}
use Rattle.zq_query.proofs.Filling.{tied_entered, below_entered, records_entered, new_due, all_absent, absent_places}
use Rattle.zq_query.proofs.Rising.{rising_filled}
use Rattle.zq_query.proofs.queries.Queries.enter.Goals as goal

pub fill-requires : goal.fill-requires
fill-requires c =
    let i = c.self.inside in
    let ps = c.args.places.now in
    all_absent i.pending.entries (record { number = i.requests; deadline = c.args.deadline }) ps
    (absent_places i.heads.entries i.pending.entries i.dues.entries i.replies.entries c.self.invariant.0 ps (ap (λ (s : QueryState). any_pending s.records ps) c.self.view_is ∙ c.requires.plan.absent))
    c.requires.plan.distinct

pub invariant_of-self-in-Err-fill : goal.invariant_of-self-in-Err-fill
invariant_of-self-in-Err-fill c =
    let i = c.self.inside in
    let due = new_due i.heads.entries i.pending.entries i.dues.entries i.replies.entries c.self.invariant.0 i.requests i.next_reply c.self.invariant.1 c.args.deadline in
    let dues = c.remove.ensures.entries ∙ ap (remove_entry (is_at (place_cmp (c.args.deadline, i.requests)))) c.in-Ok.ensures.entries ∙ undone place_total place_exact i.dues.entries (c.args.deadline, i.requests) c.args.listed due in
    rw (c.reserve.ensures.entries, c.reserve-2.ensures.entries, c.in-Err-fill.ensures.err, dues) c.self.invariant

pub invariant_of-self-2 : goal.invariant_of-self-2
invariant_of-self-2 c =
    let i = c.self.inside in
    let tied = c.self.invariant.0 in
    let below = c.self.invariant.1 in
    let ps = c.args.places.now in
    let plan = c.requires.plan in
    let absent = all_absent i.pending.entries (record { number = i.requests; deadline = c.args.deadline }) ps
    (absent_places i.heads.entries i.pending.entries i.dues.entries i.replies.entries tied ps (ap (λ (s : QueryState). any_pending s.records ps) c.self.view_is ∙ plan.absent)) plan.distinct in
    let heads = c.put.ensures.entries ∙ ap (λ (l : List (ℕ × Open)). insert_entry nat_cmp l i.requests c.args.opened) c.reserve.ensures.entries in
    let dues = c.in-Ok.ensures.entries ∙ ap (insert_entry place_cmp i.dues.entries (c.args.deadline, i.requests)) c.requires.listed in
    let given = c.give_all-self-inside.ensures.given ∙ ap (λ (l : List (ℕ × ℕ)). giving l ps) c.reserve-2.ensures.entries in
    let rising = c.give_all-self-inside.ensures.rising ∙ ap (λ (l : List (ℕ × ℕ)). i.rising && all_rise l ps) c.reserve-2.ensures.entries in
    rw (heads, c.in-Ok-fill.ensures.ok, dues, given, rising) (
      tied_entered i.heads.entries i.pending.entries i.dues.entries i.replies.entries tied i.requests i.next_reply below ps c.args.deadline absent plan.distinct c.requires.some plan.small c.args.opened c.requires.counts.0 c.requires.counts.1,
      below_entered i.heads.entries i.pending.entries i.dues.entries i.replies.entries tied i.requests i.next_reply below ps c.args.deadline absent plan.distinct c.requires.some plan.small c.args.opened c.requires.counts.0 c.requires.counts.1,
      rising_filled i.rising i.pending.entries i.last_ids.entries ps (record { number = i.requests; deadline = c.args.deadline }) c.self.invariant.2,
    )

pub returns-clause-ok : goal.returns-clause-ok
returns-clause-ok c =
    let i = c.self.inside in
    let tied = c.self.invariant.0 in
    let below = c.self.invariant.1 in
    let ps = c.args.places.now in
    let plan = c.requires.plan in
    let absent = all_absent i.pending.entries (record { number = i.requests; deadline = c.args.deadline }) ps
    (absent_places i.heads.entries i.pending.entries i.dues.entries i.replies.entries tied ps (ap (λ (s : QueryState). any_pending s.records ps) c.self.view_is ∙ plan.absent)) plan.distinct in
    let heads = c.put.ensures.entries ∙ ap (λ (l : List (ℕ × Open)). insert_entry nat_cmp l i.requests c.args.opened) c.reserve.ensures.entries in
    let given = c.give_all-self-inside.ensures.given ∙ ap (λ (l : List (ℕ × ℕ)). giving l ps) c.reserve-2.ensures.entries in
    let records = (λ j. records_of (heads j) (c.in-Ok-fill.ensures.ok j) i.replies.entries)
    ∙ records_entered i.heads.entries i.pending.entries i.dues.entries i.replies.entries tied i.requests i.next_reply below ps c.args.deadline absent plan.distinct c.requires.some plan.small c.args.opened c.requires.counts.0 c.requires.counts.1 in
    (λ j. record { records = records j; last_ids = given j; closed = i.closed.keys; requests = i.requests + 1; replies = i.next_reply; request_ids = i.request_ids })
    ∙ ap (asking_at c.args.opened.asker c.args.opened.id c.args.opened.qos ps c.args.deadline) c.self.view_is
