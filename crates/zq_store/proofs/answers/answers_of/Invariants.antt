use Rattle.std.proofs.Common.{◌≡◌, take}
use Rattle.std.specs.List.{flat_map}
use Rattle.zq_store.specs.Getting.{answers_at}
use Rattle.zq_store.proofs.answers.answers_of.Given as goal

abbrev pub invariant-loop-one : goal.invariant-loop-one
invariant-loop-one l = l.answers ≡ flat_map (answers_at l.stores l.key) (take l.one-index l.asked)
