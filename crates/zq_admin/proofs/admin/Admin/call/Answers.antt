use Rattle.std.proofs.Common.{subst}
use Rattle.zq_admin.specs.Admin.{Calls, Seat}
use Rattle.zq_admin.proofs.Called.{calls_answered}
use Rattle.zq_admin.proofs.admin.Admin.call.Goals as goal

pub returns-in-Ok-call-clause-calls : goal.returns-in-Ok-call-clause-calls
returns-in-Ok-call-clause-calls c =
    subst (λ (x : Seat). Calls x (c.self.inside.own, c.answer_step.new.gateway.state) c.args.call.now c.answer_step.result) c.self.view_is
    (calls_answered c.self.inside.own c.self.inside.gateway.state c.call.new.self.state c.answer_step.new.gateway.state c.args.call.now c.in-Ok-call.step c.answer_step.result c.in-Ok-call.ensures.step c.in-Ok-call.ensures.after c.answer_step.ensures)
