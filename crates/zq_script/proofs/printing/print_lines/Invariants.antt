use Rattle.std.proofs.Common.{◌≡◌, ◌+◌, ◌≤◌, length, false}
use Rattle.zq_script.specs.Printing.{FitsRun, printed_by, printed_on}
use Rattle.zq_lines.specs.Split.{lines_of}
use Rattle.zq_script.specs.Script.{parts_from}
use Rattle.zq_script.proofs.printing.print_lines.Given as goal

abbrev pub invariant-lines : goal.invariant-lines
invariant-lines l = record {
  told : printed_on l.print.items (printed_by l.gateway.state (parts_from l.number false 0 (lines_of l.rest))) ≡ printed_by l.fn.gateway.state (parts_from l.first false 0 (lines_of l.bytes));
  fits : FitsRun l.gateway.state (parts_from l.number false 0 (lines_of l.rest)) → FitsRun l.fn.gateway.state (parts_from l.first false 0 (lines_of l.bytes));
  counted : l.number + length l.rest ≤ l.first + length l.bytes;
}

abbrev pub decreases-lines : goal.decreases-lines
decreases-lines l = length l.rest
