use Rattle.std.proofs.Common.{◌≡◌, ◌++◌, take}
use Rattle.zq_show.specs.Plain.{lines_plain}
use Rattle.zq_show.proofs.plain.push_lines.Given as goal

abbrev pub invariant-loop-line : goal.invariant-loop-line
invariant-loop-line l = l.out.items ≡ l.fn.out.items ++ lines_plain l.pen.colours (take l.line-index l.lines)
