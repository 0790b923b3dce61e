use Rattle.std.proofs.Common.{◌≡◌, ◌++◌, drop}
use Rattle.zq_moved.specs.Received.{received, received_from}
use Rattle.zq_moved.proofs.receiving.received.Given as goal

abbrev pub invariant-loop-i : goal.invariant-loop-i
invariant-loop-i l = l.all ++ received_from l.face.0 l.known (drop l.i l.calls) (drop l.i l.steps) ≡ received l.face.0 l.calls l.steps
