use Rattle.std.proofs.Common.{◌≡◌}
use Rattle.zq_show.specs.Choice.{rows_at}
use Rattle.zq_show.proofs.choice.rows_at.Given as goal

abbrev pub invariant-loop-row : goal.invariant-loop-row
invariant-loop-row l = l.kept ≡ rows_at l.lines l.yielded
