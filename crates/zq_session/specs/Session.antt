-- Scripts whose calls can be moved, and what is printed of their runs in a namespace.
use Rattle.std.specs.Prelude.{map, ℕ, ◌+◌, false, List, [], ◌∷◌, ◌++◌, Option, Some, None, Result, Ok, Err, if◌then◌else◌, codes}
use Rattle.std.specs.Fmt.{decimal}
use Rattle.std.specs.List.{flat_map}
use Rattle.zq_message.specs.declared.message.Message.{Message}
use Rattle.zq_machine.specs.declared.call.Call.{Call}
use Rattle.zq_machine.specs.declared.call.Outcome.{Outcome}
use Rattle.zq_machine.specs.declared.call.Outcome.TheVariants as outcome
use Rattle.zq_machine.specs.declared.call.Step.{Step}
use Rattle.zq_machine.specs.Configs.{Settings}
use Rattle.zq_machine.specs.Machine.{steps}
use Rattle.zq_io.specs.Words.{◌>>=◌}
use Rattle.zq_script.specs.Head.{Head, head_of}
use Rattle.zq_script.specs.Script.{script_call}
use Rattle.zq_lines.specs.Steps.{message_words}
use Rattle.zq_moved.specs.Moving.{can_move_call, moved}
use Rattle.zq_moved.specs.Received.{received}
use Rattle.zq_moved.specs.Inside.{outcome_of}

-- ---- what is read

-- the call, if it can be moved
abbrev pub movable : Call → Option Call
movable c = if can_move_call c then Some c else None

-- the call of a line, if it can be moved
abbrev pub call_in : List ℕ → Option Call
call_in line = script_call false line >>= movable

-- what was read before, and what is read on
abbrev pub onto_calls : List Call → Result (List Call) ℕ → Result (List Call) ℕ
onto_calls calls (Ok rest) = Ok (calls ++ rest)
onto_calls calls (Err n) = Err n

-- a line's call, or the number of the line
abbrev pub with_call : ℕ → Option Call → Result (List Call) ℕ → Result (List Call) ℕ
with_call n None rest = Err n
with_call n (Some c) rest = onto_calls (c ∷ []) rest

-- the calls of the lines from this number on, or the first bad line
abbrev pub calls_from : ℕ → List (List ℕ) → Result (List Call) ℕ
calls_from n [] = Ok []
calls_from n (line ∷ lines) = with_call n (call_in line) (calls_from (n + 1) lines)

-- the configuration with the calls
abbrev pub Session : Type 0
Session = Settings × List Call

-- the same of what was read
abbrev pub session_by : Settings → Result (List Call) ℕ → Result Session ℕ
session_by config (Ok calls) = Ok (config, calls)
session_by config (Err n) = Err n

-- the session of a head
abbrev pub with_calls : Result Head ℕ → Result Session ℕ
with_calls (Ok head) = session_by head.0 (calls_from head.2 head.3)
with_calls (Err n) = Err n

-- the session of these lines, or the number of the first bad line
abbrev pub session_of : List (List ℕ) → Result Session ℕ
session_of lines = with_calls (head_of lines)

-- ---- what is printed

-- a message on a line of its own
abbrev pub message_line : Message → List ℕ
message_line m = message_words m ++ 10 ∷ []

-- a face with what it has received
abbrev pub face_words : ℕ → List Message → List ℕ
face_words face ms = (codes "face " ++ decimal face ++ 10 ∷ []) ++ flat_map message_line ms

-- the face that an answer opens, with what it has received, where this is said of each face
abbrev pub opened_words : (ℕ → List Message) → Outcome → List ℕ
opened_words reads (outcome.Opened f) = face_words f.0 (reads f.0)
opened_words reads (outcome.Asked number) = []
opened_words reads (outcome.Replied reply) = []
opened_words reads outcome.Done = []
opened_words reads (outcome.Refused r) = []

-- each face that these answers open, with what it has received
abbrev pub faces_words : (ℕ → List Message) → List Outcome → List ℕ
faces_words reads answers = flat_map (opened_words reads) answers

-- the print of a run: each face that was opened, with what it has received
abbrev pub run_words : List Call → List Step → List ℕ
run_words calls ts = faces_words (λ face. received face calls ts) (map outcome_of ts)

-- the print of the run in a namespace
abbrev pub inside_words : Settings → List ℕ → List Call → List ℕ
inside_words config n calls = run_words (moved n calls) (steps config (moved n calls))
