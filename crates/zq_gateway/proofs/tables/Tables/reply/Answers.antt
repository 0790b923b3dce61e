use Rattle.std.proofs.Common.{◌≡◌, ◌∙◌, refl, sym, ap, subst, true, false}
use Rattle.zq_query.specs.Records.{QueryState, is_pending, lacks_reply}
use Rattle.zq_machine.specs.declared.call.Step.{Step}
use Rattle.zq_machine.specs.State.{State}
use Rattle.zq_machine.specs.TextCalls.{replying}
use Rattle.zq_gateway.specs.Making.{Answers}
use Rattle.zq_gateway.proofs.Quiet.{quiet_goes, quiet_stays, replying_asks, replying_fits}
use Rattle.zq_gateway.proofs.tables.Tables.reply.Goals as goal

pub returns-in-Ok : goal.returns-in-Ok
returns-in-Ok c =
    let s : State = c.args.self.now in
    let face = c.args.face in
    let r = c.args.response.now in
    let t = replying face c.args.said r in
    let queries = ap (λ (x : State). x.core.queries) c.self.view_is in
    let there : is_pending face.0 r.rid s.core.queries.records ≡ true = ap (λ (q : QueryState). is_pending face.0 r.rid q.records) (sym queries) ∙ c.in-Ok.ensures.pending in
    let enough : lacks_reply face.0 r.rid s.core.queries ≡ false = ap (lacks_reply face.0 r.rid) (sym queries) ∙ c.in-Ok.ensures.free in
    let fits =
    replying_fits s face c.args.said r (sym c.is_open.ensures ∙ c.if-not-is_open.false) (sym c.is_unscoped.ensures ∙ c.if-is_unscoped.false) there
    (sym c.says_key_or_nothing.ensures ∙ c.if-not-says_key_or_nothing.false) enough in
    subst (λ (x : Step × State). Answers s c.put_reply.new.self x.0 x.1 c.put_reply.result)
    (λ j. (quiet_goes s t refl (replying_asks face c.args.said r) fits j, sym (quiet_stays s t refl (replying_asks face c.args.said r) fits) j)) c.put_reply.ensures
