use Rattle.std.proofs.Common.{◌≡◌, take}
use Rattle.std.specs.Prelude.{map}
use Rattle.zq_show.specs.Lanes.{lane_for}
use Rattle.zq_show.proofs.lanes.lanes_for.Given as goal

abbrev pub invariant-loop-face : goal.invariant-loop-face
invariant-loop-face l = l.lanes ≡ map (lane_for l.abouts.entries) (take l.face-index l.faces)
