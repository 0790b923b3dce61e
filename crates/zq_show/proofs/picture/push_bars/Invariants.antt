use Rattle.std.proofs.Common.{◌≡◌, ◌+◌, ◌++◌, drop}
use Rattle.zq_show.specs.Numbered.{numbered}
use Rattle.zq_show.specs.Picture.{bar_words, bars_words}
use Rattle.zq_show.proofs.picture.push_bars.Given as goal

abbrev pub invariant-loop-i : goal.invariant-loop-i
invariant-loop-i l = l.out.items ++ numbered (λ i row. bar_words l.lanes i row (drop (i + 1) l.rows)) l.i (drop l.i l.rows) ≡ l.fn.out.items ++ bars_words l.lanes l.rows
