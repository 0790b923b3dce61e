use Rattle.std.proofs.Common.{◌≡◌, map, take}
use Rattle.zq_machine.specs.Writing.{sent_final}
use Rattle.zq_egress.proofs.write.written_finals.Given as goal

abbrev pub invariant-loop-last : goal.invariant-loop-last
invariant-loop-last l = l.handed ≡ map sent_final (take l.last-index l.finals)
