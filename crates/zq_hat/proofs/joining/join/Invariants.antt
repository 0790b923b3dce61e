use Rattle.std.proofs.Common.{◌≡◌, fold}
use Rattle.std.specs.Vec.Iter.{into_iter_items}
use Rattle.zq_hat.specs.Joining.{with_sources}
use Rattle.zq_hat.proofs.joining.join.Given as goal

abbrev pub invariant-loop-key : goal.invariant-loop-key
invariant-loop-key l = fold (with_sources l.own) l.all (into_iter_items l.key-iterator) ≡ fold (with_sources l.own) l.initial.all l.fn.list
