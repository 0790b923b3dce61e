use Rattle.std.proofs.Common.{◌≡◌, take}
use Rattle.zq_show.specs.Showing.{face_lines}
use Rattle.zq_show.proofs.show.face_lines.Given as goal

abbrev pub invariant-loop-entry : goal.invariant-loop-entry
invariant-loop-entry l = l.texts ≡ face_lines (take l.entry-index l.entries)
