use Rattle.std.proofs.Common.{◌≡◌, take, Some}
use Rattle.zq_store.specs.Room.{less_by}
use Rattle.zq_store.specs.Stores.{count_all}
use Rattle.zq_store.proofs.room.suffices.Given as goal

abbrev pub invariant-loop-store : goal.invariant-loop-store
invariant-loop-store l = l.left ≡ less_by (count_all l.key (take l.store-index l.stores)) (Some l.most)
