use Rattle.std.proofs.Common.{take}
use Rattle.zq_route.specs.Taken.{IsSetOf}
use Rattle.zq_route.proofs.taken.set_of.Given as goal

abbrev pub invariant-loop-face : goal.invariant-loop-face
invariant-loop-face l = IsSetOf (take l.face-index l.faces) l.set
