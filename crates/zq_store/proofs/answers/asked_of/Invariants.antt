use Rattle.std.proofs.Common.{◌≡◌, take}
use Rattle.std.specs.List.{flat_map}
use Rattle.zq_store.specs.Getting.{asked_in}
use Rattle.zq_store.proofs.answers.asked_of.Given as goal

abbrev pub invariant-loop-message : goal.invariant-loop-message
invariant-loop-message l = l.asked ≡ flat_map (asked_in l.stores) (take l.message-index l.handed)
