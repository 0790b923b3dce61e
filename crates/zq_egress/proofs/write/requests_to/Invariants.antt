use Rattle.std.proofs.Common.{◌≡◌, map, take}
use Rattle.zq_machine.specs.Deciding.{handed_request}
use Rattle.zq_machine.specs.Writing.{write}
use Rattle.zq_egress.proofs.write.requests_to.Given as goal

abbrev pub invariant-loop-i : goal.invariant-loop-i
invariant-loop-i l = l.handed ≡ write l.names (map (handed_request l.queries l.text l.request) (take l.i l.offers))
