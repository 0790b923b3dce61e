use Rattle.std.proofs.Common.{◌≡◌, ◌++◌, map}
use Rattle.zq_store.specs.Getting.{answer_of}
use Rattle.zq_store.proofs.answers.push_pairs.Given as goal

abbrev pub invariant-loop-key : goal.invariant-loop-key
invariant-loop-key l = l.answers ≡ l.initial.answers ++ map (answer_of l.asked) l.yielded
