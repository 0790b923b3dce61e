use Rattle.std.proofs.Common.{◌≡◌, drop}
use Rattle.zq_egress.specs.Telling.{untold}
use Rattle.zq_egress.proofs.tell.untell.Given as goal

abbrev pub invariant-loop-i : goal.invariant-loop-i
invariant-loop-i l = l.names ≡ untold (drop l.i l.handed) l.fn.names
