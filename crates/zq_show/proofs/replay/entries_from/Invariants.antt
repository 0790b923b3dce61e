use Rattle.std.proofs.Common.{◌≡◌, ◌+◌, ◌≤◌, ◌++◌, length}
use Rattle.zq_lines.specs.Split.{lines_of}
use Rattle.zq_show.specs.Replay.{bad_from, ended_from, entries_from}
use Rattle.zq_show.proofs.replay.entries_from.Given as goal

abbrev pub invariant-lines : goal.invariant-lines
invariant-lines l = record {
  entries : l.entries ++ entries_from l.number l.machine l.seen (lines_of l.rest) ≡ entries_from l.first l.fn.machine l.fn.seen (lines_of l.bytes);
  bad : bad_from l.number (lines_of l.rest) ≡ bad_from l.first (lines_of l.bytes);
  after : ended_from l.machine (lines_of l.rest) ≡ ended_from l.fn.machine (lines_of l.bytes);
  counted : l.number + length l.rest ≤ l.first + length l.bytes;
}

abbrev pub decreases-lines : goal.decreases-lines
decreases-lines l = length l.rest
