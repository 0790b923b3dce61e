-- What a run of a script for storages reads and writes.
use Rattle.std.specs.Prelude.{ℕ, ◌<◌, ◌≤◌, Bool, false, List, [], ◌∷◌, ◌++◌, Option, Result, Ok, Err, codes, length}
use Rattle.std.specs.Str.{bytes_eq}
use Rattle.std.specs.Fmt.{decimal}
use Rattle.std.specs.Io.KnownBytes.{Appends}
use Rattle.zq_io.specs.declared.transfer.TheConstants.{LIMIT}
use Rattle.zq_io.specs.Streams.{AppendsFront}
use Rattle.zq_lines.specs.Split.{lines_of}
use Rattle.zq_script.specs.declared.running.Status.{Status}
use Rattle.zq_script.specs.declared.running.Status.TheVariants as status
use Rattle.zq_store.specs.Lines.{script_of}
use Rattle.zq_store.specs.Printing.{script_print}
use Rattle.zq_store.specs.declared.lines.Line.{Line}

-- the word is `store`, and there is no other
abbrev pub is_store : List (List ℕ) → Bool
is_store [] = false
is_store (word ∷ []) = bytes_eq word (codes "store")
is_store (word ∷ other ∷ words) = false

-- what is printed for a script, or for the first bad line
abbrev pub print_by : Result (List Line) ℕ → List ℕ
print_by (Ok lines) = script_print lines
print_by (Err n) = codes "bad line " ++ decimal n ++ 10 ∷ []

-- what is printed for these bytes
abbrev pub print_of : List ℕ → List ℕ
print_of input = print_by (script_of (lines_of input))

-- the bytes are a script
abbrev pub IsScript : Result (List Line) ℕ → Type 0
IsScript (Ok lines) = Unit {0}
IsScript (Err n) = ⊥

-- the bytes have a bad line
abbrev pub IsBad : Result (List Line) ℕ → Type 0
IsBad (Ok lines) = ⊥
IsBad (Err n) = Unit {0}

-- the status where the print is taken
abbrev pub IsEnd : Status → Result (List Line) ℕ → Type 0
IsEnd status.Done read = IsScript read
IsEnd status.Words read = ⊥
IsEnd status.Script read = IsBad read
IsEnd status.ReadFault read = ⊥
IsEnd status.WriteFault read = ⊥
IsEnd status.Memory read = ⊥
IsEnd status.TooLong read = ⊥
IsEnd status.LinkFault read = ⊥

-- a run that ended so, what it was given, and what the sink had and has taken
abbrev pub Leaves : Status → List ℕ → Option (List ℕ) → Option (List ℕ) → Type 0
Leaves status.Done input old new = IsScript (script_of (lines_of input)) × (length input ≤ LIMIT) × Appends old new (print_of input)
Leaves status.Words input old new = Unit {0}
Leaves status.Script input old new = IsBad (script_of (lines_of input)) × (length input ≤ LIMIT) × Appends old new (print_of input)
Leaves status.ReadFault input old new = Unit {0}
Leaves status.WriteFault input old new = (length input ≤ LIMIT) × AppendsFront old new (print_of input)
Leaves status.Memory input old new = Unit {0}
Leaves status.TooLong input old new = LIMIT < length input
Leaves status.LinkFault input old new = ⊥

-- the bytes are a script that a run may read
abbrev pub IsFit : List ℕ → Type 0
IsFit input = (length input ≤ LIMIT) × IsScript (script_of (lines_of input))
