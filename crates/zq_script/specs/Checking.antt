-- What is said of a script that is looked at and not run.
use Rattle.std.specs.Prelude.{ℕ, ◌<◌, ◌≤◌, List, Option, length}
use Rattle.std.specs.Io.KnownBytes.{Appends}
use Rattle.zq_io.specs.declared.transfer.TheConstants.{LIMIT}
use Rattle.zq_io.specs.Streams.{AppendsFront}
use Rattle.zq_lines.specs.Split.{lines_of}
use Rattle.zq_script.specs.Bad.{bad_lines, bad_lines_words}
use Rattle.zq_script.specs.Running.{IsBad, IsScript}
use Rattle.zq_script.specs.Script.{script_of}
use Rattle.zq_script.specs.declared.running.Status.{Status}
use Rattle.zq_script.specs.declared.running.Status.TheVariants as status

-- the bad lines of these bytes, each on a line, with so many lines `worker` at most
abbrev pub check_words : ℕ → List ℕ → List ℕ
check_words workers input = bad_lines_words (bad_lines workers (lines_of input))

-- how it ended, what was given, and what the sink had and has taken
abbrev pub LeavesChecked : Status → ℕ → List ℕ → Option (List ℕ) → Option (List ℕ) → Type 0
LeavesChecked status.Done workers input old new = IsScript (script_of workers (lines_of input)) × (length input ≤ LIMIT) × Appends old new (check_words workers input)
LeavesChecked status.Words workers input old new = ⊥
LeavesChecked status.Script workers input old new = IsBad (script_of workers (lines_of input)) × (length input ≤ LIMIT) × Appends old new (check_words workers input)
LeavesChecked status.ReadFault workers input old new = Unit {0}
LeavesChecked status.WriteFault workers input old new = (length input ≤ LIMIT) × AppendsFront old new (check_words workers input)
LeavesChecked status.Memory workers input old new = Unit {0}
LeavesChecked status.TooLong workers input old new = LIMIT < length input
LeavesChecked status.LinkFault workers input old new = ⊥
