-- What stands at the end of a run.
use Rattle.std.specs.Prelude.{ℕ, List, codes}
use Rattle.zq_admin.specs.Entries.{entries_lines, entries_met}
use Rattle.zq_lines.specs.Split.{lines_of}
use Rattle.zq_machine.specs.State.{State}

-- who declared each key and who asks to hear of it: the entries of the administration view, each as a line
unfoldable pub standing : State → List (List ℕ)
standing s = lines_of (entries_lines (entries_met (codes "@/**") s))
