use Rattle.std.proofs.Common.{◌≡◌, take}
use Rattle.zq_show.specs.Showing.{lines_shown}
use Rattle.zq_show.proofs.show.lines_shown.Given as goal

abbrev pub invariant-loop-entry : goal.invariant-loop-entry
invariant-loop-entry l = l.lines ≡ lines_shown l.request l.rows (take l.entry-index l.entries)
