use Rattle.std.proofs.Common.{◌≡◌, ◌++◌, map, take}
use Rattle.std.specs.List.{flat_map}
use Rattle.zq_strategy.specs.Seating.{number}
use Rattle.zq_strategy.specs.Tellings.{all_told_of}
use Rattle.zq_routers.proofs.networks.tell_all.Given as goal

abbrev pub invariant-loop-face : goal.invariant-loop-face
invariant-loop-face l = l.tellings ≡ l.initial.tellings ++ flat_map (all_told_of l.standing l.node) (map number (take l.face-index l.faces))
