use Rattle.std.proofs.Common.{◌≡◌, map, take}
use Rattle.zq_key.specs.Space.{behind}
use Rattle.zq_moved.proofs.moving.all_behind.Given as goal

abbrev pub invariant-loop-text : goal.invariant-loop-text
invariant-loop-text l = l.moved ≡ map (behind l.ns) (take l.text-index l.texts)
