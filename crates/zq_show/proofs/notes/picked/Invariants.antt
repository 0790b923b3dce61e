use Rattle.std.proofs.Common.{◌≡◌, take}
use Rattle.zq_show.specs.Notes.{picked}
use Rattle.zq_show.proofs.notes.picked.Given as goal

abbrev pub invariant-loop-message : goal.invariant-loop-message
invariant-loop-message l = l.faces ≡ picked l.leaves (take l.message-index l.handed)
