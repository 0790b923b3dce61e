-- What a shared run reads, writes and sends.
use Rattle.std.specs.Prelude.{ℕ, ◌<◌, ◌≤◌, Bool, true, false, List, Option, Result, length, if◌then◌else◌}
use Rattle.std.specs.Io.KnownBytes.{Appends}
use Rattle.zq_io.specs.declared.transfer.TheConstants.{LIMIT}
use Rattle.zq_io.specs.Streams.{AppendsFront}
use Rattle.zq_lines.specs.Split.{lines_of}
use Rattle.zq_script.specs.Running.{IsBad, IsScript}
use Rattle.zq_script.specs.Script.{script_of}
use Rattle.zq_script.specs.declared.running.Status.{Status}
use Rattle.zq_script.specs.declared.running.Status.TheVariants as status
use Rattle.zq_script.specs.declared.script.Script.{Script}
use Rattle.zq_program.specs.SharedPrinting.{MayPrint}
use Rattle.zq_program.specs.declared.words.Sharing.{Sharing}

-- the script that the bytes are, or the number of its first bad line
abbrev pub shared_script : Sharing → List ℕ → Result Script ℕ
shared_script s input = script_of s.workers (lines_of input)

-- the sink took a print for these bytes
abbrev pub TakesPrint : Sharing → List ℕ → Option (List ℕ) → Option (List ℕ) → Type 0
TakesPrint s input old new = (print : List ℕ) × MayPrint s.slots (shared_script s input) print × Appends old new print

-- the sink took a front of a print for these bytes
abbrev pub TakesFront : Sharing → List ℕ → Option (List ℕ) → Option (List ℕ) → Type 0
TakesFront s input old new = (print : List ℕ) × MayPrint s.slots (shared_script s input) print × AppendsFront old new print

-- the status where the print is taken: `Done` or `LinkFault` for a script, `Script` for a bad line
abbrev pub IsSharedEnd : Status → Result Script ℕ → Type 0
IsSharedEnd status.Done read = IsScript read
IsSharedEnd status.Words read = ⊥
IsSharedEnd status.Script read = IsBad read
IsSharedEnd status.ReadFault read = ⊥
IsSharedEnd status.WriteFault read = ⊥
IsSharedEnd status.Memory read = ⊥
IsSharedEnd status.TooLong read = ⊥
IsSharedEnd status.LinkFault read = IsScript read

-- a shared run that ended so, what it was given, and what the sink had and has taken
abbrev pub LeavesShared : Sharing → Status → List ℕ → Option (List ℕ) → Option (List ℕ) → Type 0
LeavesShared s status.Done input old new = IsScript (shared_script s input) × (length input ≤ LIMIT) × TakesPrint s input old new
LeavesShared s status.Words input old new = ⊥
LeavesShared s status.Script input old new = IsBad (shared_script s input) × (length input ≤ LIMIT) × TakesPrint s input old new
LeavesShared s status.ReadFault input old new = Unit {0}
LeavesShared s status.WriteFault input old new = (length input ≤ LIMIT) × TakesFront s input old new
LeavesShared s status.Memory input old new = Unit {0}
LeavesShared s status.TooLong input old new = LIMIT < length input
LeavesShared s status.LinkFault input old new = IsScript (shared_script s input) × (length input ≤ LIMIT) × TakesPrint s input old new

-- the status of a shared run whose print is taken
abbrev pub end_of : Bool → Status
end_of sent = if sent then status.Done else status.LinkFault

-- only these ends come before anything is written
abbrev pub is_unwritten : Status → Bool
is_unwritten status.Done = false
is_unwritten status.Words = true
is_unwritten status.Script = false
is_unwritten status.ReadFault = true
is_unwritten status.WriteFault = false
is_unwritten status.Memory = true
is_unwritten status.TooLong = true
is_unwritten status.LinkFault = false

-- these ends come before any call is made
abbrev pub is_idle : Status → Bool
is_idle status.Done = false
is_idle status.Words = true
is_idle status.Script = true
is_idle status.ReadFault = true
is_idle status.WriteFault = false
is_idle status.Memory = false
is_idle status.TooLong = true
is_idle status.LinkFault = false

-- these ends come only once the whole source was read
abbrev pub is_whole : Status → Bool
is_whole status.Done = true
is_whole status.Words = false
is_whole status.Script = true
is_whole status.ReadFault = false
is_whole status.WriteFault = false
is_whole status.Memory = false
is_whole status.TooLong = false
is_whole status.LinkFault = true

-- the bytes are a script that so many workers may make
abbrev pub IsFitFor : ℕ → List ℕ → Type 0
IsFitFor workers input = (length input ≤ LIMIT) × IsScript (script_of workers (lines_of input))
