use Rattle.std.proofs.Common.{◌≡◌, map, take}
use Rattle.zq_strategy.specs.Seating.{number}
use Rattle.zq_strategy.specs.Tellings.{tree_telling}
use Rattle.zq_routers.proofs.children.tell_faces.Given as goal

abbrev pub invariant-loop-face : goal.invariant-loop-face
invariant-loop-face l = l.tellings ≡ map (tree_telling l.key l.info l.node) (map number (take l.face-index l.faces))
