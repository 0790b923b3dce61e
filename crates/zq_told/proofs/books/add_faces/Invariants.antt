use Rattle.std.proofs.Common.{◌≡◌, take}
use Rattle.std.specs.List.{All}
use Rattle.zq_told.specs.Rooms.{HasRooms, ears_of}
use Rattle.zq_told.proofs.books.add_faces.Given as goal

abbrev pub invariant-loop-face : goal.invariant-loop-face
invariant-loop-face l = record {
  ears : ears_of l.books.entries ≡ ears_of l.initial.books.entries;
  ready : All (HasRooms l.books.entries) (take l.face-index l.plan);
}
