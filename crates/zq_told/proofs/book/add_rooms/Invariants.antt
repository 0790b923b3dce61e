use Rattle.std.proofs.Common.{◌≡◌, ℕ, List, true, take}
use Rattle.std.specs.List.{All}
use Rattle.zq_told.specs.Rooms.{IsRoomy, has_room}
use Rattle.zq_told.proofs.book.add_rooms.Given as goal

abbrev pub invariant-loop-key : goal.invariant-loop-key
invariant-loop-key l = record {
  told : l.slots.told ≡ l.initial.slots.told;
  rooms : All (IsRoomy (has_room l.slots)) (take l.key-index l.rows);
  others : (q : List ℕ) → has_room l.initial.slots q ≡ true → has_room l.slots q ≡ true;
}
