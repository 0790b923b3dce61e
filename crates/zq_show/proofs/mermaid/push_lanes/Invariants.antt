use Rattle.std.proofs.Common.{◌≡◌, ◌++◌, take}
use Rattle.zq_show.specs.Mermaid.{lanes_lines}
use Rattle.zq_show.proofs.mermaid.push_lanes.Given as goal

abbrev pub invariant-loop-lane : goal.invariant-loop-lane
invariant-loop-lane l = l.out.items ≡ l.fn.out.items ++ lanes_lines (take l.lane-index l.lanes)
