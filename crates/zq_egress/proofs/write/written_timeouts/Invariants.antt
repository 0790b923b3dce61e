use Rattle.std.proofs.Common.{◌≡◌, take}
use Rattle.zq_machine.specs.Deciding.{handed_timeouts}
use Rattle.zq_machine.specs.Writing.{write}
use Rattle.zq_egress.proofs.write.written_timeouts.Given as goal

abbrev pub invariant-loop-timeout : goal.invariant-loop-timeout
invariant-loop-timeout l = l.handed ≡ write l.names (handed_timeouts l.faces.entries (take l.timeout-index l.timeouts))
