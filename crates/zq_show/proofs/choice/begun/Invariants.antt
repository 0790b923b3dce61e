use Rattle.std.proofs.Common.{◌≡◌, map, filter, take}
use Rattle.zq_show.specs.PageRows.{is_of}
use Rattle.zq_show.specs.Choice.{event_of}
use Rattle.zq_show.proofs.choice.begun.Given as goal

abbrev pub invariant-loop-row : goal.invariant-loop-row
invariant-loop-row l = l.events ≡ map event_of (filter (is_of l.request) (take l.row-index l.rows))
