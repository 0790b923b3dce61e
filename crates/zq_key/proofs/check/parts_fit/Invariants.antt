use Rattle.std.proofs.Common.{◌≡◌, length, false}
use Rattle.zq_key.specs.Key.{parts}
use Rattle.zq_key.specs.Checks.{parts_fit}
use Rattle.zq_key.proofs.check.parts_fit.Given as goal

abbrev pub invariant-loop-rest : goal.invariant-loop-rest
invariant-loop-rest l = parts_fit false (parts l.chunk) ≡ parts_fit l.after_run (parts l.rest)

abbrev pub decreases-loop-rest : goal.decreases-loop-rest
decreases-loop-rest l = length l.rest
