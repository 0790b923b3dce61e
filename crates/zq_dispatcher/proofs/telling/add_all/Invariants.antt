use Rattle.std.proofs.Common.{◌≡◌, ◌++◌}
use Rattle.zq_dispatcher.proofs.telling.add_all.Given as goal

abbrev pub invariant-loop-telling : goal.invariant-loop-telling
invariant-loop-telling l = l.told ≡ l.fn.told ++ l.yielded
