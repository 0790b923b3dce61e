use Rattle.std.proofs.Common.{◌≡◌, fold, take}
use Rattle.zq_dispatcher.specs.Listeners.{with_number}
use Rattle.zq_dispatcher.proofs.listeners.put_faces.Given as goal

abbrev pub invariant-loop-face : goal.invariant-loop-face
invariant-loop-face l = l.found.keys ≡ fold with_number l.initial.found.keys (take l.face-index l.faces)
