use Rattle.std.proofs.Common.{◌≡◌, [], take}
use Rattle.std.specs.Prelude.{fold}
use Rattle.zq_show.specs.Choice.{joined}
use Rattle.zq_show.proofs.choice.lanes_of.Given as goal

abbrev pub invariant-loop-row : goal.invariant-loop-row
invariant-loop-row l = l.lanes.items ≡ fold joined [] (take l.row-index l.rows)
