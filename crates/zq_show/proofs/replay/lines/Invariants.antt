use Rattle.std.proofs.Common.{◌≡◌, ◌++◌, length}
use Rattle.zq_lines.specs.Split.{lines_of}
use Rattle.zq_show.proofs.replay.lines.Given as goal

abbrev pub invariant-lines : goal.invariant-lines
invariant-lines l = l.read ++ lines_of l.rest ≡ lines_of l.bytes

abbrev pub decreases-lines : goal.decreases-lines
decreases-lines l = length l.rest
