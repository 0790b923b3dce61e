use Rattle.std.proofs.Common.{◌≡◌, ◌++◌}
use Rattle.zq_show.proofs.unreached.add_unreached.Given as goal

abbrev pub invariant-loop-entry : goal.invariant-loop-entry
invariant-loop-entry l = l.all ≡ l.fn.all ++ l.yielded
