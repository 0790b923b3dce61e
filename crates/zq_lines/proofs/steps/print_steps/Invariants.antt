use Rattle.std.proofs.Common.{◌≡◌, take}
use Rattle.std.specs.List.{flat_map}
use Rattle.zq_lines.specs.Steps.{step_words}
use Rattle.zq_lines.proofs.steps.print_steps.Given as goal

abbrev pub invariant-loop-step : goal.invariant-loop-step
invariant-loop-step l = l.out.items ≡ flat_map step_words (take l.step-index l.steps)
