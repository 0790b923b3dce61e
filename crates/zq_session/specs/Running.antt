-- What a run in a namespace reads and writes.
use Rattle.std.specs.Prelude.{ℕ, ◌<◌, ◌≤◌, ◌&&◌, List, [], ◌∷◌, ◌++◌, Option, Some, None, Result, Ok, Err, if◌then◌else◌, codes, length}
use Rattle.std.specs.Str.{bytes_eq}
use Rattle.std.specs.Fmt.{decimal}
use Rattle.std.specs.Io.KnownBytes.{Appends}
use Rattle.zq_key.specs.Key.{is_plain}
use Rattle.zq_io.specs.declared.transfer.TheConstants.{LIMIT}
use Rattle.zq_io.specs.Streams.{AppendsFront}
use Rattle.zq_lines.specs.Split.{lines_of}
use Rattle.zq_script.specs.declared.running.Status.{Status}
use Rattle.zq_script.specs.declared.running.Status.TheVariants as status
use Rattle.zq_session.specs.Session.{Session, inside_words, session_of}

-- the namespace of the words `inside NS`, where it is a plain key
abbrev pub space_of : List (List ℕ) → Option (List ℕ)
space_of [] = None
space_of (word ∷ []) = None
space_of (word ∷ ns ∷ []) = if bytes_eq word (codes "inside") && is_plain ns then Some ns else None
space_of (word ∷ ns ∷ other ∷ words) = None

-- what is printed for a session, or for the first bad line
abbrev pub session_print : List ℕ → Result Session ℕ → List ℕ
session_print n (Ok s) = inside_words s.0 n s.1
session_print n (Err line) = codes "bad line " ++ decimal line ++ 10 ∷ []

-- what is printed for these bytes
abbrev pub print_in : List ℕ → List ℕ → List ℕ
print_in n input = session_print n (session_of (lines_of input))

-- the bytes are a script whose calls can be moved
abbrev pub IsSession : Result Session ℕ → Type 0
IsSession (Ok s) = Unit {0}
IsSession (Err n) = ⊥

-- the bytes have a bad line
abbrev pub IsBad : Result Session ℕ → Type 0
IsBad (Ok s) = ⊥
IsBad (Err n) = Unit {0}

-- the status where the print is taken
abbrev pub IsEnd : Status → Result Session ℕ → Type 0
IsEnd status.Done read = IsSession read
IsEnd status.Words read = ⊥
IsEnd status.Script read = IsBad read
IsEnd status.ReadFault read = ⊥
IsEnd status.WriteFault read = ⊥
IsEnd status.Memory read = ⊥
IsEnd status.TooLong read = ⊥
IsEnd status.LinkFault read = ⊥

-- a run in a namespace that ended so, what it was given, and what the sink had and has taken
abbrev pub LeavesIn : List ℕ → Status → List ℕ → Option (List ℕ) → Option (List ℕ) → Type 0
LeavesIn n status.Done input old new = IsSession (session_of (lines_of input)) × (length input ≤ LIMIT) × Appends old new (print_in n input)
LeavesIn n status.Words input old new = Unit {0}
LeavesIn n status.Script input old new = IsBad (session_of (lines_of input)) × (length input ≤ LIMIT) × Appends old new (print_in n input)
LeavesIn n status.ReadFault input old new = Unit {0}
LeavesIn n status.WriteFault input old new = (length input ≤ LIMIT) × AppendsFront old new (print_in n input)
LeavesIn n status.Memory input old new = Unit {0}
LeavesIn n status.TooLong input old new = LIMIT < length input
LeavesIn n status.LinkFault input old new = ⊥

-- the bytes are a script whose calls can be moved, and that a run may read
abbrev pub IsFitIn : List ℕ → Type 0
IsFitIn input = (length input ≤ LIMIT) × IsSession (session_of (lines_of input))
