use Rattle.std.proofs.Common.{◌≡◌, ◌++◌, drop}
use Rattle.zq_machine.specs.Machine.{steps, steps_from}
use Rattle.zq_gateway.proofs.runs.replay.Given as goal

abbrev pub invariant-loop-call : goal.invariant-loop-call
invariant-loop-call l = record {
  told : l.steps ++ steps_from l.gateway.state (drop l.call-index l.calls) ≡ steps l.config l.calls;
}
