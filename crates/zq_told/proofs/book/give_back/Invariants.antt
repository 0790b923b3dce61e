use Rattle.std.proofs.Common.{◌≡◌, ℕ, List, true, take}
use Rattle.std.specs.List.{All}
use Rattle.zq_told.specs.Rooms.{IsBare, has_room}
use Rattle.zq_told.proofs.book.give_back.Given as goal

abbrev pub invariant-loop-key : goal.invariant-loop-key
invariant-loop-key l = record {
  told : l.slots.told ≡ l.initial.slots.told;
  bare : All (IsBare l.slots) (take l.key-index l.rows);
  fewer : (q : List ℕ) → has_room l.slots q ≡ true → has_room l.initial.slots q ≡ true;
}
