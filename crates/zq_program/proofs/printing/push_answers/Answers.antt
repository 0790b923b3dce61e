use Rattle.zq_program.proofs.Printed.{next_printed}
use Rattle.zq_program.proofs.printing.push_answers.Goals as goal

pub loop-call-preserved : goal.loop-call-preserved
loop-call-preserved c = record {
  told =
      next_printed c.args.calls.now c.loop-call.call-index c.call-item.result c.loop-call.gateway.state c.push_answer.new.gateway.state c.loop-call.out.items c.push_answer.new.out.items _
      c.loop-call-test.true c.call-item.is c.in_ok-push_answer.ensures.after c.in_ok-push_answer.ensures.print c.loop-call.invariant.told;
}
