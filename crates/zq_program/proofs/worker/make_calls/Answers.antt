use Rattle.std.proofs.Common.{◌++◌, ◌∙◌, List, ap}
use Rattle.zq_machine.specs.declared.call.Call.{Call}
use Rattle.zq_program.proofs.Making.{begun_at, not_whole}
use Rattle.zq_program.proofs.worker.make_calls.Goals as goal

pub returns-then-not-ended-clause-begun : goal.returns-then-not-ended-clause-begun
returns-then-not-ended-clause-begun g c =
    let i = c.loop-call.invariant in
    let all = i.left ∙ ap (λ (l : List Call). c.loop-call.yielded ++ l) c.in-Some.ensures.steps.0 in
    let same = c.make_call-ended.ensures.lacked (not_whole c.make_call-ended.result.whole c.if-not-ended.true) in
    λ lacks. begun_at c.args.calls.items c.loop-call.yielded c.in-Some.call c.next.new.self.rest.items all c.args.tally.now.made c.loop-call.tally.made c.make_call-ended.new.tally.made i.made same
