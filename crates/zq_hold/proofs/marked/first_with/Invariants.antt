use Rattle.std.proofs.Common.{◌≢◌, ℕ, ◌<◌}
use Rattle.zq_hold.specs.Marks.{mark_at}
use Rattle.zq_hold.proofs.marked.first_with.Given as goal

abbrev pub invariant-loop-i : goal.invariant-loop-i
invariant-loop-i l = (j : ℕ) → j < l.i → mark_at l.marks j ≢ l.mark
