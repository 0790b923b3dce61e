use Rattle.std.proofs.Common.{◌≡◌, ◌+◌, ◌≤◌, [], length}
use Rattle.std.specs.Prelude.{nat_lt}
use Rattle.zq_lines.specs.Split.{lines_of}
use Rattle.zq_script.specs.Script.{parts_from, onto_parts}
use Rattle.zq_script.proofs.script.parts_of.Given as goal

abbrev pub invariant-lines : goal.invariant-lines
invariant-lines l = record {
  read : onto_parts l.parts l.calls (parts_from l.number l.shared l.left (lines_of l.rest)) ≡ onto_parts [] [] (parts_from l.first (nat_lt 0 l.workers) l.workers (lines_of l.bytes));
  counted : l.number + length l.rest ≤ l.first + length l.bytes;
}

abbrev pub decreases-lines : goal.decreases-lines
decreases-lines l = length l.rest
