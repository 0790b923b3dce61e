use Rattle.std.proofs.Common.{take}
use Rattle.std.specs.Prelude.{All}
use Rattle.zq_lines.specs.StepsFit.{FitsHanded, ShowsHanded}
use Rattle.zq_lines.proofs.fit.step_fits.Given as goal

abbrev pub invariant-loop-handed : goal.invariant-loop-handed
invariant-loop-handed l = All (λ h. ShowsHanded h → FitsHanded h) (take l.handed-index l.handed-items)
