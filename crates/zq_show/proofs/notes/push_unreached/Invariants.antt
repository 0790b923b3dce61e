use Rattle.std.proofs.Common.{◌≡◌, ◌++◌, take}
use Rattle.std.specs.Prelude.{map}
use Rattle.zq_show.specs.Notes.{unreached_note}
use Rattle.zq_show.proofs.notes.push_unreached.Given as goal

abbrev pub invariant-loop-entry : goal.invariant-loop-entry
invariant-loop-entry l = l.notes ≡ l.fn.notes ++ map unreached_note (take l.entry-index l.unreached)
