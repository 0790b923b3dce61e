use Rattle.std.proofs.Common.{◌≡◌, ◌+◌, ◌≤◌, length}
use Rattle.zq_lines.specs.Split.{lines_of}
use Rattle.zq_store.specs.Lines.{lines_from, onto_lines, script_of}
use Rattle.zq_store.proofs.lines.read_lines.Given as goal

abbrev pub invariant-lines : goal.invariant-lines
invariant-lines l = record {
  read : onto_lines l.lines (lines_from l.number (lines_of l.rest)) ≡ script_of (lines_of l.bytes);
  counted : l.number + length l.rest ≤ 1 + length l.bytes;
}

abbrev pub decreases-lines : goal.decreases-lines
decreases-lines l = length l.rest
