use Rattle.std.proofs.Common.{◌≡◌, map, filter, take}
use Rattle.zq_show.specs.Choice.{is_own, line_of}
use Rattle.zq_show.proofs.choice.own_lines.Given as goal

abbrev pub invariant-loop-row : goal.invariant-loop-row
invariant-loop-row l = l.lines ≡ map line_of (filter (is_own l.request l.events) (take l.row-index l.rows))
