use Rattle.std.proofs.Common.{◌≡◌, ◌++◌, drop}
use Rattle.zq_machine.specs.Machine.{steps_from}
use Rattle.zq_lines.specs.Steps.{steps_words}
use Rattle.zq_program.proofs.printing.push_answers.Given as goal

abbrev pub invariant-loop-call : goal.invariant-loop-call
invariant-loop-call l = record {
  told : l.out.items ++ steps_words (steps_from l.gateway.state (drop l.call-index l.calls)) ≡ l.fn.out.items ++ steps_words (steps_from l.fn.gateway.state l.calls);
}
