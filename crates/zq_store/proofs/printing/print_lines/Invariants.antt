use Rattle.std.proofs.Common.{◌≡◌, ◌++◌, drop}
use Rattle.zq_store.specs.Printing.{lines_print}
use Rattle.zq_store.proofs.printing.print_lines.Given as goal

abbrev pub invariant-loop-line : goal.invariant-loop-line
invariant-loop-line l = l.out.items ++ lines_print l.bus (drop l.line-index l.lines) ≡ lines_print l.initial.bus l.lines
