use Rattle.std.proofs.Common.{◌∙◌, ◌++◌, ◌+◌, map, drop, arith}
use Rattle.zq_machine.specs.Machine.{state_after, steps_from}
use Rattle.zq_store.specs.Getting.{end_call, handed_over}
use Rattle.zq_store.proofs.Runs.{ended_after, ended_step}
use Rattle.zq_store.proofs.asking.end_all.Goals as goal

pub loop-one-preserved : goal.loop-one-preserved
loop-one-preserved c =
    let ts = c.args.asked.now in
    let i = c.loop-one.one-index in
    let rest = map end_call (drop (i + 1) ts) in
    record {
      handed = (λ j. c.in_ok-end.ensures.handed j ++ handed_over (steps_from (c.in_ok-end.ensures.after j) rest)) ∙ ended_step c.loop-one.handed c.loop-one.gateway.state ts i _ (omega (arith, c.loop-one-test.true)) ∙ c.loop-one.invariant.handed;
      after = (λ j. state_after (c.in_ok-end.ensures.after j) rest) ∙ ended_after c.loop-one.gateway.state ts i _ (omega (arith, c.loop-one-test.true)) ∙ c.loop-one.invariant.after;
    }
