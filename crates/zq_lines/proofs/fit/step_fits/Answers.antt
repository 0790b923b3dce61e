use Rattle.std.proofs.Common.{arith}
use Rattle.zq_lines.specs.StepsFit.{FitsHanded, ShowsHanded}
use Rattle.zq_lines.proofs.EachFits.{one_more, each_fit}
use Rattle.zq_lines.proofs.fit.step_fits.Goals as goal

pub loop-handed-preserved : goal.loop-handed-preserved
loop-handed-preserved c = one_more ShowsHanded FitsHanded _ c.loop-handed.handed-index c.handed-item.result (omega arith) c.handed-item.is c.handed_fits.ensures c.loop-handed.invariant

pub returns : goal.returns
returns c = λ shown. record {
  outcome = c.outcome_fits.ensures;
  handed = rw (← c.as_slice-handed-items.ensures) (each_fit ShowsHanded FitsHanded c.as_slice-handed-items.result.now c.loop-handed.handed-index (omega arith) c.loop-handed.invariant (rw c.as_slice-handed-items.ensures shown));
}
