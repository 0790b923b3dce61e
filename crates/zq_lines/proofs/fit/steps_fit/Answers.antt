use Rattle.std.proofs.Common.{arith}
use Rattle.zq_lines.specs.StepsFit.{FitsStep, ShowsStep}
use Rattle.zq_lines.proofs.EachFits.{one_more, each_fit}
use Rattle.zq_lines.proofs.fit.steps_fit.Goals as goal

pub loop-step-preserved : goal.loop-step-preserved
loop-step-preserved c = one_more ShowsStep FitsStep _ c.loop-step.step-index c.step-item.result (omega arith) c.step-item.is c.step_fits.ensures c.loop-step.invariant

pub returns : goal.returns
returns c = λ shown. each_fit ShowsStep FitsStep c.args.steps.now c.loop-step.step-index (omega arith) c.loop-step.invariant shown
