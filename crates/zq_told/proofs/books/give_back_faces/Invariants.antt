use Rattle.std.proofs.Common.{◌≡◌, take}
use Rattle.std.specs.List.{All}
use Rattle.zq_told.specs.Rooms.{IsBareAt, ears_of}
use Rattle.zq_told.proofs.books.give_back_faces.Given as goal

abbrev pub invariant-loop-face : goal.invariant-loop-face
invariant-loop-face l = record {
  ears : ears_of l.books.entries ≡ ears_of l.initial.books.entries;
  bare : All (IsBareAt l.books.entries) (take l.face-index l.plan);
}
