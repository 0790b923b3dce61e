use Rattle.std.proofs.Common.{◌≡◌, length}
use Rattle.zq_lines.specs.Split.{lines_of}
use Rattle.zq_script.specs.Bad.{line_at}
use Rattle.zq_script.proofs.bad.line_at.Given as goal

abbrev pub invariant-lines : goal.invariant-lines
invariant-lines l = line_at l.left (lines_of l.rest) ≡ line_at l.number (lines_of l.script)

abbrev pub decreases-lines : goal.decreases-lines
decreases-lines l = length l.rest
