use Rattle.std.proofs.Common.{◌≡◌, take}
use Rattle.zq_show.specs.Rows.{all_rows}
use Rattle.zq_show.proofs.rows.all_rows.Given as goal

abbrev pub invariant-loop-entry : goal.invariant-loop-entry
invariant-loop-entry l = l.rows ≡ all_rows l.timeout (take l.entry-index l.entries)
