use Rattle.std.proofs.Common.{◌≡◌, fold, take}
use Rattle.zq_machine.specs.Gates.{without_ended}
use Rattle.zq_egress.proofs.through.end_each.Given as goal

abbrev pub invariant-loop-message : goal.invariant-loop-message
invariant-loop-message l = l.gates.entries ≡ fold without_ended l.initial.gates.entries (take l.message-index l.handed)
