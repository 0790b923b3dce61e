use Rattle.std.proofs.Common.{◌≡◌, ◌++◌, drop}
use Rattle.zq_show.specs.Numbered.{numbered}
use Rattle.zq_show.specs.Picture.{row_words, row_y, rows_words}
use Rattle.zq_show.proofs.picture.push_rows.Given as goal

abbrev pub invariant-loop-i : goal.invariant-loop-i
invariant-loop-i l = l.out.items ++ numbered (λ i row. row_words l.lanes l.width row (row_y i)) l.i (drop l.i l.rows) ≡ l.fn.out.items ++ rows_words l.lanes l.width l.rows
