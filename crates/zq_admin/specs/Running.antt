-- What a run that lists entries reads and writes.
use Rattle.std.specs.Prelude.{ℕ, ◌<◌, ◌≤◌, ◌&&◌, List, [], ◌∷◌, ◌++◌, Option, Some, None, Result, Ok, Err, if◌then◌else◌, codes, length}
use Rattle.std.specs.Str.{bytes_eq}
use Rattle.std.specs.Fmt.{decimal}
use Rattle.std.specs.Io.KnownBytes.{Appends}
use Rattle.zq_key.specs.Key.{is_key}
use Rattle.zq_io.specs.declared.transfer.TheConstants.{LIMIT}
use Rattle.zq_io.specs.Streams.{AppendsFront}
use Rattle.zq_lines.specs.Split.{lines_of}
use Rattle.zq_script.specs.Script.{script_of}
use Rattle.zq_script.specs.Running.{IsEnd, first_part}
use Rattle.zq_script.specs.declared.script.Script.{Script}
use Rattle.zq_script.specs.declared.running.Status.{Status}
use Rattle.zq_script.specs.declared.running.Status.TheVariants as status
use Rattle.zq_admin.specs.Entries.{entries_lines}
use Rattle.zq_admin.specs.Traced.{entries_after}

-- the key of the words `list KEY`, where it is one
abbrev pub asked_of : List (List ℕ) → Option (List ℕ)
asked_of [] = None
asked_of (word ∷ []) = None
asked_of (word ∷ key ∷ []) = if bytes_eq word (codes "list") && is_key key then Some key else None
asked_of (word ∷ key ∷ other ∷ words) = None

-- the lines of the entries of the script's calls that meet the key
abbrev pub listing : List ℕ → Script → List ℕ
listing key s = entries_lines (entries_after s.config (first_part s.parts) key)

-- what is printed for a script, or for the first bad line
abbrev pub listing_print : List ℕ → Result Script ℕ → List ℕ
listing_print key (Ok s) = listing key s
listing_print key (Err line) = codes "bad line " ++ decimal line ++ 10 ∷ []

-- what is printed for these bytes
abbrev pub print_in : List ℕ → List ℕ → List ℕ
print_in key input = listing_print key (script_of 0 (lines_of input))

-- a run that ended so, what it was given, and what the sink had and has taken
abbrev pub Lists : List ℕ → Status → List ℕ → Option (List ℕ) → Option (List ℕ) → Type 0
Lists key status.Done input old new = IsEnd status.Done (script_of 0 (lines_of input)) × (length input ≤ LIMIT) × Appends old new (print_in key input)
Lists key status.Words input old new = Unit {0}
Lists key status.Script input old new = IsEnd status.Script (script_of 0 (lines_of input)) × (length input ≤ LIMIT) × Appends old new (print_in key input)
Lists key status.ReadFault input old new = Unit {0}
Lists key status.WriteFault input old new = (length input ≤ LIMIT) × AppendsFront old new (print_in key input)
Lists key status.Memory input old new = Unit {0}
Lists key status.TooLong input old new = LIMIT < length input
Lists key status.LinkFault input old new = ⊥
