use Rattle.std.proofs.Common.{◌≤◌, length, ◌∙◌, ap, subst, sym}
use Rattle.std.proofs.lemmas.Result.{IfOk-weaker}
use Rattle.zq_machine.specs.declared.call.Step.{Step}
use Rattle.zq_machine.specs.Asked.{replies_of}
use Rattle.zq_machine.specs.Machine.{step}
use Rattle.zq_machine.specs.State.{State}
use Rattle.zq_shared.specs.Stored.{Stored, answer_to}
use Rattle.zq_shared.proofs.Journals.{answer_is}
use Rattle.zq_shared.proofs.journal.Journal.most_replies.Goals as goal

pub returns : goal.returns
returns c =
    let same =
    ap (λ (s : State). step s c.args.call.now) c.self.invariant.stands
    ∙ (sym (answer_is (record { config = c.self.inside.config; calls = c.self.inside.calls.items }) c.args.call.now)
    ∙ ap (λ (s : Stored). answer_to s c.args.call.now) c.self.view_is) in
    IfOk-weaker c.most_replies.result (λ n. length (replies_of (step c.self.inside.gateway.state c.args.call.now)) ≤ n) (λ n. length (replies_of (answer_to c.args.self.now c.args.call.now)) ≤ n)
    (λ n few. subst (λ (t : Step). length (replies_of t) ≤ n) same few) c.most_replies.ensures
