use Rattle.std.proofs.Common.{◌≡◌, ◌++◌, take}
use Rattle.zq_show.specs.Narrow.{row_items}
use Rattle.zq_show.proofs.narrow.push_items.Given as goal

abbrev pub invariant-loop-row : goal.invariant-loop-row
invariant-loop-row l = l.out.items ≡ l.fn.out.items ++ row_items (take l.row-index l.rows)
