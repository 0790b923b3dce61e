-- The bad lines of a script, and why they are bad.
use Rattle.std.specs.Prelude.{◌≡◌, ℕ, ◌+◌, ◌-◌, Bool, true, false, ◌&&◌, nat_le, nat_lt, List, [], ◌∷◌, ◌++◌, Option, Some, None, Result, Ok, Err, if◌then◌else◌, codes}
use Rattle.std.specs.Fmt.{decimal}
use Rattle.std.specs.List.{flat_map}
use Rattle.std.specs.Str.{bytes_eq}
use Rattle.zq_machine.specs.declared.call.Call.{Call}
use Rattle.zq_machine.specs.declared.config.Counters.{Counters}
use Rattle.zq_machine.specs.Configs.{Settings, no_counts, usual_best}
use Rattle.zq_io.specs.Words.{◌>>=◌}
use Rattle.zq_lines.specs.Why.{reason}
use Rattle.zq_script.specs.Head.{Behind, behind_config, config_of, configured}
use Rattle.zq_lines.specs.Split.{lines_of}
use Rattle.zq_script.specs.Script.{script_call, script_of}
use Rattle.zq_script.specs.declared.bad.BadLine.{BadLine}
use Rattle.zq_script.specs.declared.bad.TheConstants.{EMPTY}

-- a bad line of this number
abbrev pub bad_line : ℕ → List ℕ → BadLine
bad_line n line = record { number = n; reason = reason n line }

-- an empty script lacks its first line
abbrev pub lacking : BadLine
lacking = record { number = 1; reason = EMPTY.now }

-- the line of a number, from 1; empty where there is none
abbrev pub line_at : ℕ → List (List ℕ) → List ℕ
line_at n [] = []
line_at n (line ∷ lines) = if nat_le n 1 then line else line_at (n - 1) lines

-- the bad line of this number in a script
abbrev pub bad_line_at : ℕ → List (List ℕ) → BadLine
bad_line_at n [] = lacking
bad_line_at n (line ∷ lines) = bad_line n (line_at n (line ∷ lines))

-- a line that is no call is bad, and then these are
abbrev pub unless_call : ℕ → List ℕ → Option Call → List BadLine → List BadLine
unless_call n line None bad = bad_line n line ∷ bad
unless_call n line (Some c) bad = bad

-- the bad ones of the lines from this number on, where calls are to stand, with so many workers to come
abbrev pub bad_calls : ℕ → Bool → ℕ → List (List ℕ) → List BadLine
bad_calls n shared workers [] = []
bad_calls n shared workers (line ∷ lines) =
    if bytes_eq line (codes "worker") && nat_lt 0 workers then bad_calls (n + 1) shared (workers - 1) lines
    else unless_call n line (script_call shared line) (bad_calls (n + 1) shared workers lines)

-- the bad ones of the lines behind the head: there calls are to stand
abbrev pub bad_from : ℕ → Behind → List BadLine
bad_from workers b = bad_calls b.number (nat_lt 0 workers) workers b.lines

-- the bad ones of the lines behind the first
abbrev pub bad_behind : ℕ → List ℕ → List (List ℕ) → List BadLine
bad_behind workers line lines = bad_from workers (behind_config line lines)

-- a line `config` with these entries says settings
abbrev pub is_configured : Option (Result Settings ℕ) → Bool
is_configured None = false
is_configured (Some (Ok config)) = true
is_configured (Some (Err n)) = false

-- the line is a line `config`, and nothing is wrong with its entries
abbrev pub is_config : List ℕ → Bool
is_config line = is_configured (config_of line >>= (λ c. Some (configured c no_counts usual_best)))

-- a first line that says no settings is bad
abbrev pub unless_config : List ℕ → List BadLine
unless_config line = if is_config line then [] else bad_line 1 line ∷ []

-- all bad lines of a script, in order, with so many lines `worker` at most
abbrev pub bad_lines : ℕ → List (List ℕ) → List BadLine
bad_lines workers [] = lacking ∷ []
bad_lines workers (line ∷ lines) = unless_config line ++ bad_behind workers line lines

-- the number of the first of these lines, if there is one
abbrev pub first_number : List BadLine → Option ℕ
first_number [] = None
first_number (b ∷ bad) = Some b.number

-- the number of the line at which reading a script stops, if it does
abbrev pub stop_of : {X : Type 0} → Result X ℕ → Option ℕ
stop_of (Ok x) = None
stop_of (Err n) = Some n

-- a bad line in words
abbrev pub bad_line_words : BadLine → List ℕ
bad_line_words b = codes "bad line " ++ decimal b.number ++ codes ": " ++ b.reason ++ 10 ∷ []

-- bad lines in words, each on a line
abbrev pub bad_lines_words : List BadLine → List ℕ
bad_lines_words bad = flat_map bad_line_words bad

-- the bad line is the one at which reading these bytes as a script stops
abbrev pub Names : ℕ → List ℕ → BadLine → Type 0
Names workers input b = (script_of workers (lines_of input) ≡ Err b.number) × (b ≡ bad_line_at b.number (lines_of input))
