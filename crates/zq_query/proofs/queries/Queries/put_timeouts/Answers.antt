use Rattle.std.proofs.Common.{◌≡◌, ◌∙◌, ◌-◌, List, None, sym, ap, get_or, take, arith, false}
use Rattle.std.specs.Prelude.{not}
use Rattle.std.specs.List.{list_any}
use Rattle.std.proofs.lemmas.Bool.{not-false}
use Rattle.zq_query.specs.declared.records.Timeout.{Timeout}
use Rattle.zq_query.specs.Records.{QueryState, has_number, any_over}
use Rattle.zq_query.specs.Polling.{timing_out, numbers_in, has_reply_from, landing_from}
use Rattle.zq_query.proofs.Giving.{none_at}
use Rattle.zq_query.proofs.Fusion.{none_over}
use Rattle.zq_query.proofs.NextReply.{none_flies_yet}
use Rattle.zq_query.proofs.Flying.{numbers_stay, numbers_given, one_before, all_landed}
use Rattle.zq_query.proofs.TimingOut.{enough, rest_stays}
use Rattle.zq_query.proofs.queries.Queries.put_timeouts.Goals as goal

pub put_timeout-requires-clause-there : goal.put_timeout-requires-clause-there
put_timeout-requires-clause-there c =
    let s = c.args.self.now in
    let ts = c.args.timeouts.now in
    let t : Timeout = get_or ts c.loop-i.i (record { number = 0; asker = record { 0 = 0 }; id = 0; qos = 0; target = record { 0 = 0 }; reply = None }) in
    ap (λ (z : QueryState). list_any (has_number t.number) z.records) c.loop-i.invariant
    ∙ numbers_stay t.number (take c.loop-i.i ts) s
    ∙ not-false _ (none_at (λ (x : Timeout). not (list_any (has_number x.number) s.records)) ts c.loop-i.i (record { number = 0; asker = record { 0 = 0 }; id = 0; qos = 0; target = record { 0 = 0 }; reply = None }) c.loop-i-test.true c.requires.there)

pub put_timeout-requires-clause-fits : goal.put_timeout-requires-clause-fits
put_timeout-requires-clause-fits c = λ some.
    let s = c.args.self.now in
    let ts = c.args.timeouts.now in
    let now = ap (λ (z : QueryState). z.replies) c.loop-i.invariant ∙ numbers_given (take c.loop-i.i ts) s in
    let more = one_before ts c.loop-i.i (record { number = 0; asker = record { 0 = 0 }; id = 0; qos = 0; target = record { 0 = 0 }; reply = None }) c.loop-i-test.true some in
    let most = enough ts s c.requires.fits in
    omega (arith, now, more, most)

pub withdraw_replies-requires-clause-low : goal.withdraw_replies-requires-clause-low
withdraw_replies-requires-clause-low c =
    let s = c.args.self.now in
    let first = ap (λ (z : QueryState). z.replies) c.self.view_is in
    let now = ap (λ (z : QueryState). z.replies) (c.in-Err.ensures.err ∙ c.loop-i.invariant) ∙ numbers_given (take c.loop-i.i c.args.timeouts.now) s in
    omega (arith, first, now)

pub withdraw_replies-requires-clause-last : goal.withdraw_replies-requires-clause-last
withdraw_replies-requires-clause-last c =
    let s = c.args.self.now in
    let i = c.self.inside in
    let ts : List Timeout = take c.loop-i.i c.args.timeouts.now in
    let first = ap (λ (z : QueryState). z.replies) c.self.view_is in
    let now = c.in-Err.ensures.err ∙ c.loop-i.invariant in
    let given = numbers_given ts s in
    let count : (timing_out ts s).replies - s.replies ≡ numbers_in ts = omega (arith, given) in
    let left : any_over s.records ≡ false = ap (λ (z : QueryState). any_over z.records) (sym c.self.view_is) ∙ none_over i.heads.entries i.pending.entries i.dues.entries i.replies.entries c.self.invariant.0 in
    let none : has_reply_from s.replies s.records ≡ false = ap (λ (z : QueryState). has_reply_from z.replies z.records) (sym c.self.view_is) ∙ none_flies_yet i.heads.entries i.pending.entries i.dues.entries i.replies.entries c.self.invariant.0 i.requests i.next_reply c.self.invariant.1 in
    (λ j. has_reply_from (first j) (landing_from (first j) ((now j).replies - first j) (now j).records))
    ∙ ap (λ n. has_reply_from s.replies (landing_from s.replies n (timing_out ts s).records)) count
    ∙ ap (has_reply_from s.replies) (all_landed ts s left none)
    ∙ none

pub returns-in-Err-clause-err : goal.returns-in-Err-clause-err
returns-in-Err-clause-err c =
    let s = c.args.self.now in
    let i = c.self.inside in
    let ts : List Timeout = take c.loop-i.i c.args.timeouts.now in
    let first = ap (λ (z : QueryState). z.replies) c.self.view_is in
    let now = c.in-Err.ensures.err ∙ c.loop-i.invariant ∙ rest_stays ts s in
    let given = numbers_given ts s in
    let count : (timing_out ts s).replies - s.replies ≡ numbers_in ts = omega (arith, given) in
    let left : any_over s.records ≡ false = ap (λ (z : QueryState). any_over z.records) (sym c.self.view_is) ∙ none_over i.heads.entries i.pending.entries i.dues.entries i.replies.entries c.self.invariant.0 in
    let none : has_reply_from s.replies s.records ≡ false = ap (λ (z : QueryState). has_reply_from z.replies z.records) (sym c.self.view_is) ∙ none_flies_yet i.heads.entries i.pending.entries i.dues.entries i.replies.entries c.self.invariant.0 i.requests i.next_reply c.self.invariant.1 in
    c.withdraw_replies.ensures
    ∙ (λ j. record (now j) { records = landing_from (first j) ((now j).replies - first j) (now j).records; replies = first j })
    ∙ ap (λ n. record s { records = landing_from s.replies n (timing_out ts s).records }) count
    ∙ ap (λ l. record s { records = l }) (all_landed ts s left none)
