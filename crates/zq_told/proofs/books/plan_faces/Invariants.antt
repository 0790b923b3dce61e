use Rattle.std.proofs.Common.{◌≡◌, [], false, fold, take}
use Rattle.std.specs.List.{list_any}
use Rattle.zq_told.specs.Rooms.{ears_of}
use Rattle.zq_told.specs.Telling.{is_above, tell_face}
use Rattle.zq_told.proofs.books.plan_faces.Given as goal

abbrev pub invariant-loop-due : goal.invariant-loop-due
invariant-loop-due l = record {
  planned : l.planned ≡ fold (tell_face l.way (ears_of l.books.entries)) (record { plan = []; tellings = [] }) (take l.due-index l.dues);
  free : list_any is_above l.planned.plan ≡ false;
}
