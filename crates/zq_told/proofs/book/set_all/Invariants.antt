use Rattle.std.proofs.Common.{◌≡◌, ℕ, List, fold, take}
use Rattle.zq_told.specs.Rooms.{has_room}
use Rattle.zq_told.specs.Telling.{put_row}
use Rattle.zq_told.proofs.book.set_all.Given as goal

abbrev pub invariant-loop-row : goal.invariant-loop-row
invariant-loop-row l = record {
  told : l.slots.told ≡ fold put_row l.initial.slots.told (take l.row-index l.rows);
  rooms : (q : List ℕ) → has_room l.slots q ≡ has_room l.initial.slots q;
}
