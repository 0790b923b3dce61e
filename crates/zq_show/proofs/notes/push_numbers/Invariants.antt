use Rattle.std.proofs.Common.{◌≡◌, ◌++◌, take}
use Rattle.zq_show.specs.Notes.{numbers_words}
use Rattle.zq_show.proofs.notes.push_numbers.Given as goal

abbrev pub invariant-loop-face : goal.invariant-loop-face
invariant-loop-face l = l.out.items ≡ l.fn.out.items ++ numbers_words (take l.face-index l.faces)
