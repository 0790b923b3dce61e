use Rattle.std.proofs.Common.{◌≡◌, ◌∙◌, ◌-◌, ℕ, ap, false}
use Rattle.zq_query.specs.Records.{QueryState}
use Rattle.zq_query.specs.Tables.{records_of}
use Rattle.zq_query.specs.Polling.{has_reply_from, landing_from}
use Rattle.zq_query.proofs.NextReply.{replies_below}
use Rattle.zq_query.proofs.queries.Queries.withdraw_replies.Goals as goal

pub invariant_of-self : goal.invariant_of-self
invariant_of-self c =
    let i = c.self-2.inside in
    let first = c.args.first in
    let from = ap (λ (s : QueryState). s.replies - first) c.self.view_is in
    let none : has_reply_from first (records_of i.heads.entries i.pending.entries i.replies.entries) ≡ false =
    ap (λ (s : QueryState). has_reply_from first s.records) (c.self-2.view_is ∙ c.land_from.ensures) ∙ ap (λ (n : ℕ). has_reply_from first (landing_from first n c.args.self.now.records)) from ∙ c.requires.last in
    (c.self-2.invariant.0, record { numbers = c.self-2.invariant.1.numbers; flights = λ r n h. replies_below i.heads.entries i.pending.entries i.dues.entries i.replies.entries c.self-2.invariant.0 first r n h none }, c.self-2.invariant.2)
