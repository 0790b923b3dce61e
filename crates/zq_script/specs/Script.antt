-- Scripts: the lines, and the calls in parts.
use Rattle.std.specs.Prelude.{ℕ, ◌+◌, ◌-◌, ◌≡◌, Bool, ◌&&◌, nat_lt, List, [], ◌∷◌, ◌++◌, Option, Some, None, Result, Ok, Err, if◌then◌else◌, codes}
use Rattle.std.specs.List.{AllByRecursion}
use Rattle.std.specs.Str.{bytes_eq}
use Rattle.zq_machine.specs.declared.call.Call.{Call}
use Rattle.zq_machine.specs.Calls.{is_sent}
use Rattle.zq_io.specs.Words.{◌>>=◌}
use Rattle.zq_io.specs.declared.stop.Stop.{Stop}
use Rattle.zq_io.specs.declared.stop.Stop.TheVariants as stop
use Rattle.zq_lines.specs.Fits.{FitsCall}
use Rattle.zq_lines.specs.Lines.{call_of}
use Rattle.zq_script.specs.Head.{Head, head_of}
use Rattle.zq_script.specs.declared.script.Script.{Script}
use Rattle.zq_script.specs.declared.refusal.ScriptRefusal.{ScriptRefusal}
use Rattle.zq_script.specs.declared.refusal.ScriptRefusal.TheVariants as refusal

-- `sent` is bad where there are workers
abbrev pub unless_sent : Bool → Call → Option Call
unless_sent shared c = if shared && is_sent c then None else Some c

-- the call of a line
abbrev pub script_call : Bool → List ℕ → Option Call
script_call shared line = call_of line >>= unless_sent shared

-- the calls up to the next `worker`, and the later parts
abbrev pub Parts : Type 0
Parts = List Call × List (List Call)

-- a call before the others of the first part
abbrev pub onto : Call → Result Parts ℕ → Result Parts ℕ
onto c (Ok parts) = Ok (c ∷ parts.0, parts.1)
onto c (Err n) = Err n

-- an empty part before the others
abbrev pub new_part : Result Parts ℕ → Result Parts ℕ
new_part (Ok parts) = Ok ([], parts.0 ∷ parts.1)
new_part (Err n) = Err n

-- a line's call, or the number of the line
abbrev pub with_line : ℕ → Option Call → Result Parts ℕ → Result Parts ℕ
with_line n None rest = Err n
with_line n (Some c) rest = onto c rest

-- the calls of the lines from this number on, with so many workers to come, or the first bad line
abbrev pub parts_from : ℕ → Bool → ℕ → List (List ℕ) → Result Parts ℕ
parts_from n shared workers [] = Ok ([], [])
parts_from n shared workers (line ∷ lines) =
    if bytes_eq line (codes "worker")
    then (if nat_lt 0 workers then new_part (parts_from (n + 1) shared (workers - 1) lines) else Err n)
    else with_line n (script_call shared line) (parts_from (n + 1) shared workers lines)

-- what was read before, and what is read on
abbrev pub onto_parts : List (List Call) → List Call → Result Parts ℕ → Result (List (List Call)) ℕ
onto_parts parts calls (Ok rest) = Ok (parts ++ (calls ++ rest.0) ∷ rest.1)
onto_parts parts calls (Err n) = Err n

-- all calls of the lines in parts
abbrev pub parts_of : ℕ → ℕ → List (List ℕ) → Result (List (List Call)) ℕ
parts_of n workers lines = onto_parts [] [] (parts_from n (nat_lt 0 workers) workers lines)

-- the script of a head and of what its parts read as
abbrev pub made : Head → Result (List (List Call)) ℕ → Result Script ℕ
made head (Ok parts) = Ok (record { head = head.1; config = head.0; parts = parts })
made head (Err n) = Err n

-- the script of a head, with its parts
abbrev pub with_parts : ℕ → Result Head ℕ → Result Script ℕ
with_parts workers (Ok head) = made head (parts_of head.2 workers head.3)
with_parts workers (Err n) = Err n

-- the script of these lines, or the number of the first bad line
abbrev pub script_of : ℕ → List (List ℕ) → Result Script ℕ
script_of workers lines = with_parts workers (head_of lines)

-- the refusal of a line in which a reader stopped
abbrev pub refusal_at : ℕ → Stop → ScriptRefusal
refusal_at n stop.Bad = refusal.BadLine n
refusal_at n stop.OutOfMemory = refusal.OutOfMemory

-- the refusal is what reading gives
abbrev pub Refuses : {X : Type 0} → ScriptRefusal → Result X ℕ → Type 0
Refuses (refusal.BadLine n) read = read ≡ Err n
Refuses refusal.OutOfMemory read = Unit {0}

-- what the call answered is what reading gives, unless memory ran out
abbrev pub Gives : {X : Type 0} → Result X ScriptRefusal → Result X ℕ → Type 0
Gives (Ok x) read = read ≡ Ok x
Gives (Err e) read = Refuses e read

-- each call fits its line
abbrev pub Holds : Script → Type 0
Holds s = AllByRecursion (AllByRecursion FitsCall) s.parts
