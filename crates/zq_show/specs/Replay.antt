-- The run of a script, as it is shown: each line's call with what a gateway answered it.
use Rattle.std.specs.Prelude.{◌≡◌, ℕ, ◌+◌, false, List, [], ◌∷◌, ◌++◌, Option, Some, None, Result, Ok, Err, map}
use Rattle.std.specs.Option.{option_and_then, option_map, option_map_or}
use Rattle.zq_message.specs.declared.message.FaceId.{FaceId}
use Rattle.zq_message.specs.declared.message.Request.{Request}
use Rattle.zq_message.specs.declared.message.WireExpr.{WireExpr}
use Rattle.zq_lines.specs.Split.{lines_of}
use Rattle.zq_machine.specs.declared.call.Call.{Call}
use Rattle.zq_machine.specs.declared.call.Call.TheVariants as call
use Rattle.zq_machine.specs.declared.call.Step.{Step}
use Rattle.zq_machine.specs.Configs.{Settings}
use Rattle.zq_machine.specs.Machine.{after, step, steps}
use Rattle.zq_machine.specs.State.{State, opening_state}
use Rattle.zq_show.specs.declared.page.BadLine.{BadLine}
use Rattle.zq_script.specs.Head.{Head, head_of}
use Rattle.zq_script.specs.Running.{first_part}
use Rattle.zq_script.specs.Script.{script_call}
use Rattle.zq_script.specs.declared.script.Script.{Script}
use Rattle.zq_show.specs.Reasons.{judged_for, no_judgement}
use Rattle.zq_show.specs.Standing.{standing}
use Rattle.zq_show.specs.Unreached.{unreached_for}
use Rattle.zq_hat.specs.declared.unreached.RouterEntry.{RouterEntry}
use Rattle.zq_show.specs.Seen.{SeenState, key_in_full, no_faces, noticed, said_in, withdrawn}
use Rattle.zq_show.specs.declared.reasons.Judgement.{Judgement}
use Rattle.zq_show.specs.declared.entry.Entry.{Entry}
use Rattle.zq_show.specs.declared.show.Run.{Run}
use Rattle.zq_lines.specs.Why.{reason}

-- the state of a new gateway; this and the two that follow are the machine's own, under names that no proof about what is shown opens
unfoldable pub begun : Settings → State
begun config = opening_state config

-- the state after a call
unfoldable pub next : State → Call → State
next s c = after s c

-- the step that a call is answered
unfoldable pub given : State → Call → Step
given s c = step s c

-- the state after the call of a line, if it is one
abbrev pub next_of : State → Option Call → State
next_of s None = s
next_of s (Some c) = next s c

-- who asks what, if the call is a request
abbrev pub asking : Call → Option (FaceId × Request)
asking (call.Request face r now) = Some (face, r)
asking _ = None

-- the expression of an optional one, and the face that writes it
abbrev pub written_by : FaceId → Option WireExpr → Option (FaceId × WireExpr)
written_by face wire = option_map (λ w. (face, w)) wire

-- the expression of a call that has one, and the face that writes it
abbrev pub written : Call → Option (FaceId × WireExpr)
written (call.DeclareKeyExpr face id wire) = Some (face, wire)
written (call.DeclareQueryable face id wire info node) = Some (face, wire)
written (call.UndeclareQueryable face id wire node) = written_by face wire
written (call.Interest face id keys aggregate wire) = written_by face wire
written (call.Request face r now) = Some (face, r.wire)
written (call.Response face r) = Some (face, r.wire)
written _ = None

-- the key that a call's expression says, where it has one that says a key
unfoldable pub key_of : SeenState → Call → Option (List ℕ)
key_of seen c = option_and_then (λ (w : FaceId × WireExpr). key_in_full (said_in seen.names seen.gates w.0 w.1)) (written c)

-- what comes of a call's choice, if it is a request
unfoldable pub judgement_of : State → SeenState → Call → Judgement
judgement_of s seen c = option_map_or (λ (asked : FaceId × Request). judged_for s.core.hats s.core.config seen asked.0 asked.1) (asking c) no_judgement

-- the entries of routers that a call does not reach, if it is a request
unfoldable pub unreached_of : State → SeenState → Call → List RouterEntry
unreached_of s seen c = option_map_or (λ (asked : FaceId × Request). unreached_for s.core.hats s.core.config.zid seen asked.0 asked.1) (asking c) []

-- what is seen after a call
unfoldable pub seen_next : State → SeenState → Call → SeenState
seen_next s seen c = noticed (next s c).core.hats (withdrawn s.core.hats seen.faces c) c (given s c) seen

-- a call of a line with its key and what it gives in a state, and what comes of its choice
abbrev pub entry_of : State → SeenState → ℕ → List ℕ → Call → Entry
entry_of s seen number line c = record { number = number; text = line; call = c; key = key_of seen c; step = given s c; best = s.core.config.best; judgement = judgement_of s seen c; unreached = unreached_of s seen c }

-- what is seen after the call of a line, if it is one
abbrev pub seen_of : State → SeenState → Option Call → SeenState
seen_of s seen None = seen
seen_of s seen (Some c) = seen_next s seen c

-- a line before what is shown of the later ones; one that is no call ends what is shown
abbrev pub lined : ℕ → State → SeenState → List ℕ → Option Call → List Entry → List Entry
lined number s seen line None later = []
lined number s seen line (Some c) later = entry_of s seen number line c ∷ later

-- the calls of lines from this number on with what they give, from a state and what was seen on, up to the first line that is no call
abbrev pub entries_from : ℕ → State → SeenState → List (List ℕ) → List Entry
entries_from number s seen [] = []
entries_from number s seen (line ∷ lines) =
    lined number s seen line (script_call false line) (entries_from (number + 1) (next_of s (script_call false line)) (seen_of s seen (script_call false line)) lines)

-- the state before a line that is no call, or behind the later ones
abbrev pub ended_by : State → Option Call → State → State
ended_by s None later = s
ended_by s (Some c) later = later

-- the state behind the calls of lines, up to the first line that is no call
abbrev pub ended_from : State → List (List ℕ) → State
ended_from s [] = s
ended_from s (line ∷ lines) = ended_by s (script_call false line) (ended_from (next_of s (script_call false line)) lines)

-- the call of a line was made: what it gave stands behind the entries, and the gateway and what is seen of it went on
pub record Adds (number : ℕ) (line : List ℕ) (s : State) (seen : SeenState) (entries : List Entry) (new : State) (saw : SeenState) (more : List Entry) : Type 0 where
  pub call : Call
  pub is : script_call false line ≡ Some call
  pub made : new ≡ next s call
  pub sees : saw ≡ seen_next s seen call
  pub added : more ≡ entries ++ entry_of s seen number line call ∷ []

-- the line of a number that could not be read, with what was expected there
abbrev pub bad_line : ℕ → List ℕ → BadLine
bad_line number line = record { number = number; text = line; reason = reason number line }

-- a line that is no call, or what comes later
abbrev pub bad_by : ℕ → List ℕ → Option Call → Option BadLine → Option BadLine
bad_by number line None later = Some (bad_line number line)
bad_by number line (Some c) later = later

-- the first line that is no call, of lines from this number on
abbrev pub bad_from : ℕ → List (List ℕ) → Option BadLine
bad_from number [] = None
bad_from number (line ∷ lines) = bad_by number line (script_call false line) (bad_from (number + 1) lines)

-- the first line, empty where there is none
abbrev pub first_line : List (List ℕ) → List ℕ
first_line [] = []
first_line (line ∷ lines) = line

-- the run behind a head: the lines of the head, and the calls up to the first bad line; or of lines without a head, of which the first is bad
abbrev pub run_by : List (List ℕ) → Result Head ℕ → Run
run_by lines (Ok head) =
    record {
      head = lines_of head.1;
      timeout = head.0.timeout;
      entries = entries_from head.2 (begun head.0) no_faces head.3;
      bad = bad_from head.2 head.3;
      stands = standing (ended_from (begun head.0) head.3);
    }
run_by lines (Err number) = record { head = []; timeout = 0; entries = []; bad = Some (bad_line number (first_line lines)); stands = [] }

-- the run of these lines: what stands before the calls, the calls with what they gave, and the first bad line
abbrev pub run_of : List (List ℕ) → Run
run_of lines = run_by lines (head_of lines)

-- the calls that are shown
abbrev pub calls_of : List Entry → List Call
calls_of entries = map (λ (entry : Entry). entry.call) entries

-- the steps that are shown
abbrev pub steps_of : List Entry → List Step
steps_of entries = map (λ (entry : Entry). entry.step) entries

-- the number of the bad line
abbrev pub bad_number : Option BadLine → Option ℕ
bad_number bad = option_map (λ (b : BadLine). b.number) bad

-- the run of a script: its calls, each once and in order, with the steps that a gateway of its configuration answers them; of lines that are none, the first bad line is shown
abbrev pub Shows : Run → Result Script ℕ → Type 0
Shows run (Ok s) = (run.head ≡ lines_of s.head) × (calls_of run.entries ≡ first_part s.parts) × (steps_of run.entries ≡ steps s.config (first_part s.parts)) × (run.bad ≡ None)
Shows run (Err number) = bad_number run.bad ≡ Some number
