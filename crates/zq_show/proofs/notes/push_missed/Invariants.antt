use Rattle.std.proofs.Common.{◌≡◌, ◌++◌, take}
use Rattle.std.specs.Prelude.{map}
use Rattle.zq_show.specs.Notes.{missed_note}
use Rattle.zq_show.proofs.notes.push_missed.Given as goal

abbrev pub invariant-loop-one : goal.invariant-loop-one
invariant-loop-one l = l.notes ≡ l.fn.notes ++ map missed_note (take l.one-index l.missed)
