use Rattle.std.proofs.Common.{◌≡◌, subst}
use Rattle.std.specs.Prelude.{IfOk, OnOk}
use Rattle.zq_machine.specs.Machine.{after, step}
use Rattle.zq_machine.specs.State.{State}
use Rattle.zq_show.specs.Replay.{given, next}
use Rattle.zq_show.proofs.machine.Machine.call.Goals as goal

pub returns : goal.returns
unfolding given next
returns c = record {
  step = subst (λ (s : State). IfOk c.call.result (λ t. t ≡ step s c.args.call.now)) c.self.view_is c.call.ensures.step;
  after = subst (λ (s : State). OnOk c.call.result (c.call.new.self.state ≡ after s c.args.call.now)) c.self.view_is c.call.ensures.after;
}
