use Rattle.std.proofs.Common.{◌≡◌, ◌++◌, drop}
use Rattle.zq_show.specs.Fit.{fitted_by}
use Rattle.zq_show.specs.Page.{line_words, lines_words}
use Rattle.zq_show.proofs.page.push_lines.Given as goal

abbrev pub invariant-loop-line : goal.invariant-loop-line
invariant-loop-line l = l.out.items ++ fitted_by (line_words l.rows) l.fit (drop l.line-index l.lines) ≡ l.fn.out.items ++ lines_words l.rows l.lines
