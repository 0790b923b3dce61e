use Rattle.std.proofs.Common.{◌≡◌, take}
use Rattle.zq_script.specs.Bad.{bad_lines_words}
use Rattle.zq_script.proofs.bad.print_bad_lines.Given as goal

abbrev pub invariant-loop-line : goal.invariant-loop-line
invariant-loop-line l = l.out.items ≡ bad_lines_words (take l.line-index l.bad)
