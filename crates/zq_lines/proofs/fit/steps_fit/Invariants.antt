use Rattle.std.proofs.Common.{take}
use Rattle.std.specs.Prelude.{All}
use Rattle.zq_lines.specs.StepsFit.{FitsStep, ShowsStep}
use Rattle.zq_lines.proofs.fit.steps_fit.Given as goal

abbrev pub invariant-loop-step : goal.invariant-loop-step
invariant-loop-step l = All (λ t. ShowsStep t → FitsStep t) (take l.step-index l.steps)
