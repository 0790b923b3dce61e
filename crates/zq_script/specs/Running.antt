-- What a run reads and writes.
use Rattle.std.specs.Prelude.{◌≡◌, ◌↔◌, IsSome, ℕ, ◌<◌, ◌≤◌, Bool, true, false, List, [], ◌∷◌, ◌++◌, Option, Some, None, Result, Ok, Err, ◌==◌, if◌then◌else◌, codes, length}
use Rattle.std.specs.Str.{bytes_eq}
use Rattle.std.specs.Fmt.{decimal}
use Rattle.std.specs.Io.KnownBytes.{Appends}
use Rattle.zq_machine.specs.declared.call.Call.{Call}
use Rattle.zq_machine.specs.Machine.{steps}
use Rattle.zq_io.specs.declared.transfer.TheConstants.{LIMIT}
use Rattle.zq_io.specs.Streams.{AppendsFront}
use Rattle.zq_io.specs.Words.{◌>>=◌, number}
use Rattle.zq_script.specs.Load.{load_line}
use Rattle.zq_lines.specs.Split.{lines_of}
use Rattle.zq_script.specs.Script.{script_of}
use Rattle.zq_lines.specs.Steps.{steps_words}
use Rattle.zq_lines.specs.StepsRead.{steps_of}
use Rattle.zq_script.specs.declared.script.Script.{Script}
use Rattle.zq_script.specs.declared.running.Command.{Command}
use Rattle.zq_script.specs.declared.running.Command.TheVariants as command
use Rattle.zq_script.specs.declared.running.RunOutcome.{RunOutcome}
use Rattle.zq_script.specs.declared.running.Status.{Status}
use Rattle.zq_script.specs.declared.running.Status.TheVariants as status

-- the number of queries of a load, from 1 to 10000
unfoldable pub amount_of : List ℕ → Option ℕ
amount_of word = do
  amount ← number 10000 word
  if amount == 0 then None else Some amount

-- what the words of a run ask for: `replay`, or `load N`
abbrev pub command_of : List (List ℕ) → Option Command
command_of [] = None
command_of (word ∷ []) = if bytes_eq word (codes "replay") then Some command.Replay else None
command_of (word ∷ amount ∷ []) = if bytes_eq word (codes "load") then amount_of amount >>= (λ n. Some (command.Load n)) else None
command_of (word ∷ amount ∷ other ∷ words) = None

-- the words are `replay`
abbrev pub IsReplay : List (List ℕ) → Type 0
IsReplay words = command_of words ≡ Some command.Replay

-- how many queries a command makes, if it is a load
abbrev pub amount_in : Command → Option ℕ
amount_in command.Replay = None
amount_in (command.Load n) = Some n

-- how many queries the words ask for, if they ask for a load
abbrev pub load_of : List (List ℕ) → Option ℕ
load_of words = command_of words >>= amount_in

-- the calls before the first line `worker`
abbrev pub first_part : List (List Call) → List Call
first_part [] = []
first_part (calls ∷ parts) = calls

-- what a script prints: the steps of its calls
abbrev pub script_print : Script → List ℕ
script_print s = steps_words (steps s.config (first_part s.parts))

-- the print of a script says its steps, and no other list of steps
abbrev pub ReadsBack : Script → Type 0
ReadsBack s = steps_of (script_print s) ≡ Some (steps s.config (first_part s.parts))

-- what is printed for a script, or for the first bad line
abbrev pub print_by : Result Script ℕ → List ℕ
print_by (Ok s) = script_print s
print_by (Err n) = codes "bad line " ++ decimal n ++ 10 ∷ []

-- what is printed for these bytes
abbrev pub print_of : List ℕ → List ℕ
print_of input = print_by (script_of 0 (lines_of input))

-- the bytes are a script
abbrev pub IsScript : Result Script ℕ → Type 0
IsScript (Ok s) = Unit {0}
IsScript (Err n) = ⊥

-- the bytes have a bad line
abbrev pub IsBad : Result Script ℕ → Type 0
IsBad (Ok s) = ⊥
IsBad (Err n) = Unit {0}

-- the status where the print is taken: `Done` for a script, `Script` for a bad line
abbrev pub IsEnd : Status → Result Script ℕ → Type 0
IsEnd status.Done read = IsScript read
IsEnd status.Words read = ⊥
IsEnd status.Script read = IsBad read
IsEnd status.ReadFault read = ⊥
IsEnd status.WriteFault read = ⊥
IsEnd status.Memory read = ⊥
IsEnd status.TooLong read = ⊥
IsEnd status.LinkFault read = ⊥

-- a run that ended so, what it was given, and what the sink had and has taken
abbrev pub Leaves : Status → List ℕ → Option (List ℕ) → Option (List ℕ) → Type 0
Leaves status.Done input old new = IsScript (script_of 0 (lines_of input)) × (length input ≤ LIMIT) × Appends old new (print_of input)
Leaves status.Words input old new = Unit {0}
Leaves status.Script input old new = IsBad (script_of 0 (lines_of input)) × (length input ≤ LIMIT) × Appends old new (print_of input)
Leaves status.ReadFault input old new = Unit {0}
Leaves status.WriteFault input old new = (length input ≤ LIMIT) × AppendsFront old new (print_of input)
Leaves status.Memory input old new = Unit {0}
Leaves status.TooLong input old new = LIMIT < length input
Leaves status.LinkFault input old new = ⊥

-- a load of so many queries that ended so, and what the sink had and has taken
abbrev pub LeavesLoad : Status → ℕ → Option (List ℕ) → Option (List ℕ) → Type 0
LeavesLoad status.Done amount old new = Appends old new (load_line amount)
LeavesLoad status.Words amount old new = ⊥
LeavesLoad status.Script amount old new = ⊥
LeavesLoad status.ReadFault amount old new = ⊥
LeavesLoad status.WriteFault amount old new = AppendsFront old new (load_line amount)
LeavesLoad status.Memory amount old new = Unit {0}
LeavesLoad status.TooLong amount old new = ⊥
LeavesLoad status.LinkFault amount old new = ⊥

-- only these ends come after a write
abbrev pub wrote : Status → Bool
wrote status.Done = true
wrote status.Words = false
wrote status.Script = true
wrote status.ReadFault = false
wrote status.WriteFault = true
wrote status.Memory = false
wrote status.TooLong = false
wrote status.LinkFault = false

-- the run is done, or found no memory
abbrev pub EndsWell : Status → Type 0
EndsWell status.Done = Unit {0}
EndsWell status.Words = ⊥
EndsWell status.Script = ⊥
EndsWell status.ReadFault = ⊥
EndsWell status.WriteFault = ⊥
EndsWell status.Memory = Unit {0}
EndsWell status.TooLong = ⊥
EndsWell status.LinkFault = ⊥

-- a bad line is told just where the run ended at one
abbrev pub Tells : RunOutcome → Type 0
Tells o = (o.status ≡ status.Script) ↔ IsSome o.bad_line

-- the bytes are a script that a run may read
abbrev pub IsFit : List ℕ → Type 0
IsFit input = (length input ≤ LIMIT) × IsScript (script_of 0 (lines_of input))

-- the number of a status
abbrev pub status_code : Status → ℕ
status_code status.Done = 0
status_code status.Words = 1
status_code status.Script = 2
status_code status.ReadFault = 3
status_code status.WriteFault = 4
status_code status.Memory = 5
status_code status.TooLong = 6
status_code status.LinkFault = 7
