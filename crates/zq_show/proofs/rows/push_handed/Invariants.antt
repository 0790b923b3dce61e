use Rattle.std.proofs.Common.{◌≡◌, ◌++◌, take}
use Rattle.zq_show.specs.Rows.{handed_rows}
use Rattle.zq_show.proofs.rows.push_handed.Given as goal

abbrev pub invariant-loop-message : goal.invariant-loop-message
invariant-loop-message l = l.rows ≡ l.fn.rows ++ handed_rows l.entry l.until (take l.message-index l.handed)
