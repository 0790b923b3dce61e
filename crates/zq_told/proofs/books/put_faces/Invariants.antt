use Rattle.std.proofs.Common.{◌≡◌, ℕ, List, fold, take}
use Rattle.zq_told.specs.Rooms.{ears_of, room_at}
use Rattle.zq_told.specs.Telling.{put_face}
use Rattle.zq_told.proofs.books.put_faces.Given as goal

abbrev pub invariant-loop-face : goal.invariant-loop-face
invariant-loop-face l = record {
  ears : ears_of l.books.entries ≡ fold put_face (ears_of l.initial.books.entries) (take l.face-index l.plan);
  rooms : (n : ℕ) (q : List ℕ) → room_at l.books.entries n q ≡ room_at l.initial.books.entries n q;
}
