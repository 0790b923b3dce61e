use Rattle.std.proofs.Common.{◌≡◌, ◌+◌, ◌≤◌, ◌++◌, length}
use Rattle.std.specs.Prelude.{nat_lt}
use Rattle.zq_lines.specs.Split.{lines_of}
use Rattle.zq_script.specs.Bad.{bad_calls}
use Rattle.zq_script.proofs.bad.push_bad_calls.Given as goal

abbrev pub invariant-lines : goal.invariant-lines
invariant-lines l = record {
  found : l.found.items ++ bad_calls l.number l.shared l.left (lines_of l.rest) ≡ l.fn.found.items ++ bad_calls l.first (nat_lt 0 l.workers) l.workers (lines_of l.bytes);
  counted : l.number + length l.rest ≤ l.first + length l.bytes;
}

abbrev pub decreases-lines : goal.decreases-lines
decreases-lines l = length l.rest
