use Rattle.std.proofs.Common.{◌≡◌, ◌++◌}
use Rattle.zq_index.specs.Texts.{texts_of}
use Rattle.zq_hat.proofs.gathered.Gathered.into_list.Given as goal

abbrev pub invariant-loop-key : goal.invariant-loop-key
invariant-loop-key l = l.list ++ texts_of l.key-iterator ≡ l.fn.self
