use Rattle.std.proofs.Common.{◌≡◌, map, take}
use Rattle.zq_moved.specs.Moving.{moved_call}
use Rattle.zq_moved.proofs.moving.moved.Given as goal

abbrev pub invariant-loop-call : goal.invariant-loop-call
invariant-loop-call l = l.all ≡ map (moved_call l.ns) (take l.call-index l.calls)
