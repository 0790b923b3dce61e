use Rattle.std.proofs.Common.{◌≡◌, ◌++◌, take}
use Rattle.std.specs.List.{flat_map}
use Rattle.zq_dispatcher.specs.Own.{change_told}
use Rattle.zq_dispatcher.proofs.telling.tell_changes.Given as goal

abbrev pub invariant-loop-key : goal.invariant-loop-key
invariant-loop-key l = l.told ≡ l.fn.told ++ flat_map (change_told l.hats l.changed l.change) (take l.key-index l.keys)
