-- The run so far, and what is shown of the lines that are left.
use Rattle.std.proofs.Common.{◌≡◌, ℕ, ◌+◌, List, [], ◌∷◌, ◌++◌, Option, Some, None, Result, Ok, Err, refl, ap, sym, ◌∙◌, false, append_assoc}
use Rattle.std.specs.Prelude.{IfOk}
use Rattle.std.proofs.lemmas.List.{append-nil}
use Rattle.zq_machine.specs.declared.call.Call.{Call}
use Rattle.zq_machine.specs.declared.call.Step.{Step}
use Rattle.zq_machine.specs.Configs.{Settings}
use Rattle.zq_machine.specs.Machine.{after, step, steps, steps_from}
use Rattle.zq_machine.specs.State.{State, opening_state}
use Rattle.zq_lines.specs.Split.{lines_of}
use Rattle.zq_show.specs.declared.page.BadLine.{BadLine}
use Rattle.zq_script.specs.Head.{Head, head_of}
use Rattle.zq_script.specs.Script.{Parts, made, onto_parts, parts_from, script_call, script_of, with_line, with_parts}
use Rattle.zq_script.proofs.Printed.{line_read}
use Rattle.zq_show.specs.Seen.{SeenState, no_faces}
use Rattle.zq_show.specs.declared.entry.Entry.{Entry}
use Rattle.zq_show.specs.declared.show.Run.{Run}
use Rattle.zq_show.specs.Replay.{bad_by, bad_from, bad_line, bad_number, begun, calls_of, ended_by, ended_from, entries_from, entry_of, given, lined, next, next_of, run_by, run_of, steps_of, seen_next, seen_of, Adds, Shows}

-- a call of the next line is made
pub next_entries : (n : ℕ) (s : State) (other : SeenState) (then : State) (told : SeenState) (line : List ℕ) (lines rest : List (List ℕ)) (c : Call) (entries more whole : List Entry) → rest ≡ line ∷ lines → script_call false line ≡ Some c → then ≡ next s c → told ≡ seen_next s other c → more ≡ entries ++ entry_of s other n line c ∷ [] → entries ++ entries_from n s other rest ≡ whole → more ++ entries_from (n + 1) then told lines ≡ whole
next_entries n s other then told line lines rest c entries more whole e f g h m i =
    rw (g, h, m) (append_assoc entries (entry_of s other n line c ∷ []) (entries_from (n + 1) (next s c) (seen_next s other c) lines) ∙ ap (λ (o : Option Call). entries ++ lined n s other line o (entries_from (n + 1) (next_of s o) (seen_of s other o) lines)) (sym f) ∙ ap (λ (ls : List (List ℕ)). entries ++ entries_from n s other ls) (sym e) ∙ i)

-- the call of a line was made
pub adds : (n : ℕ) (line : List ℕ) (s : State) (other : SeenState) (new : State) (told : SeenState) (entries more : List Entry) (call : Call) (entry : Entry) → Some call ≡ script_call false line → new ≡ next s call → told ≡ seen_next s other call → entry ≡ entry_of s other n line call → more ≡ entries ++ entry ∷ [] → Adds n line s other entries new told more
adds n line s other new told entries more call entry e f g h i =
    record { call = call; is = sym e; made = f; sees = g; added = i ∙ ap (λ (x : Entry). entries ++ x ∷ []) h }

pub next_added : (n : ℕ) (s : State) (other : SeenState) (new : State) (told : SeenState) (line : List ℕ) (lines rest : List (List ℕ)) (entries more whole : List Entry) → rest ≡ line ∷ lines → Adds n line s other entries new told more → entries ++ entries_from n s other rest ≡ whole → more ++ entries_from (n + 1) new told lines ≡ whole
next_added n s other new told line lines rest entries more whole e a i =
    next_entries n s other new told line lines rest a.call entries more whole e a.is a.made a.sees a.added i

-- the entries from a new gateway on
pub from_begun : (entries : List Entry) (n : ℕ) (s : State) (other : SeenState) (config : Settings) (lines : List (List ℕ)) → s ≡ begun config → other ≡ no_faces → entries ≡ entries_from n s other lines → entries ≡ entries_from n (begun config) no_faces lines
from_begun entries n s other config lines e f g =
    g ∙ ap (λ (x : State). entries_from n x other lines) e ∙ ap (λ (x : SeenState). entries_from n (begun config) x lines) f

-- a line that is no call ends the calls
pub last_entries : (n : ℕ) (s : State) (other : SeenState) (line : List ℕ) (lines rest : List (List ℕ)) (entries whole : List Entry) → rest ≡ line ∷ lines → script_call false line ≡ None → entries ++ entries_from n s other rest ≡ whole → entries ≡ whole
last_entries n s other line lines rest entries whole e f i =
    sym (append-nil entries) ∙ ap (λ (o : Option Call). entries ++ lined n s other line o (entries_from (n + 1) (next_of s o) (seen_of s other o) lines)) (sym f) ∙ ap (λ (ls : List (List ℕ)). entries ++ entries_from n s other ls) (sym e) ∙ i

pub ended_entries : (n : ℕ) (s : State) (other : SeenState) (line : List ℕ) (lines rest : List (List ℕ)) (entries more whole : List Entry) → rest ≡ line ∷ lines → (script_call false line ≡ None) × (more ≡ entries) → entries ++ entries_from n s other rest ≡ whole → more ≡ whole
ended_entries n s other line lines rest entries more whole e f i = f.1 ∙ last_entries n s other line lines rest entries whole e f.0 i

pub next_bad : (n : ℕ) (line : List ℕ) (lines rest : List (List ℕ)) (c : Call) (whole : Option BadLine) → rest ≡ line ∷ lines → script_call false line ≡ Some c → bad_from n rest ≡ whole → bad_from (n + 1) lines ≡ whole
next_bad n line lines rest c whole e f i =
    ap (λ (o : Option Call). bad_by n line o (bad_from (n + 1) lines)) (sym f) ∙ ap (bad_from n) (sym e) ∙ i

pub next_unbad : (n : ℕ) (s : State) (other : SeenState) (new : State) (told : SeenState) (line : List ℕ) (lines rest : List (List ℕ)) (entries more : List Entry) (whole : Option BadLine) → rest ≡ line ∷ lines → Adds n line s other entries new told more → bad_from n rest ≡ whole → bad_from (n + 1) lines ≡ whole
next_unbad n s other new told line lines rest entries more whole e a i = next_bad n line lines rest a.call whole e a.is i

pub line_bad : (n : ℕ) (line : List ℕ) (lines rest : List (List ℕ)) (whole : Option BadLine) → rest ≡ line ∷ lines → script_call false line ≡ None → bad_from n rest ≡ whole → Some (bad_line n line) ≡ whole
line_bad n line lines rest whole e f i =
    ap (λ (o : Option Call). bad_by n line o (bad_from (n + 1) lines)) (sym f) ∙ ap (bad_from n) (sym e) ∙ i

-- the calls of the lines behind the next one end as those from it on
pub next_ended : (n : ℕ) (s : State) (other : SeenState) (new : State) (told : SeenState) (line : List ℕ) (lines rest : List (List ℕ)) (entries more : List Entry) (whole : State) → rest ≡ line ∷ lines → Adds n line s other entries new told more → ended_from s rest ≡ whole → ended_from new lines ≡ whole
next_ended n s other new told line lines rest entries more whole e a i =
    ap (λ (x : State). ended_from x lines) a.made ∙ ap (λ (o : Option Call). ended_by s o (ended_from (next_of s o) lines)) (sym a.is) ∙ ap (ended_from s) (sym e) ∙ i

-- a line that is no call ends them
pub last_ended : (s new : State) (line : List ℕ) (lines rest : List (List ℕ)) (whole : State) → rest ≡ line ∷ lines → script_call false line ≡ None → new ≡ s → ended_from s rest ≡ whole → new ≡ whole
last_ended s new line lines rest whole e f still i =
    still ∙ ap (λ (o : Option Call). ended_by s o (ended_from (next_of s o) lines)) (sym f) ∙ ap (ended_from s) (sym e) ∙ i

-- the answers to calls, one after another
abbrev given_all : State → List Call → List Step
given_all s [] = []
given_all s (c ∷ cs) = given s c ∷ given_all (next s c) cs

given_steps : (s : State) (cs : List Call) → given_all s cs ≡ steps_from s cs
unfolding given next
given_steps s [] = refl
given_steps s (c ∷ cs) = ap (λ (ts : List Step). step s c ∷ ts) (given_steps (after s c) cs)

given_from : (config : Settings) (cs : List Call) → given_all (begun config) cs ≡ steps config cs
unfolding begun
given_from config cs = given_steps (opening_state config) cs

-- what is shown of lines is what their calls give, or their first bad line
abbrev Follows : State → List Entry → Option BadLine → Result Parts ℕ → Type 0
Follows s entries bad (Ok parts) = (calls_of entries ≡ parts.0) × (steps_of entries ≡ given_all s parts.0) × (bad ≡ None)
Follows s entries bad (Err n) = bad_number bad ≡ Some n

follows_one : (n : ℕ) (s : State) (other : SeenState) (line : List ℕ) (o : Option Call) (entries : List Entry) (bad : Option BadLine) (r : Result Parts ℕ) → Follows (next_of s o) entries bad r → Follows s (lined n s other line o entries) (bad_by n line o bad) (with_line n o r)
follows_one n s other line None entries bad r f = refl
follows_one n s other line (Some c) entries bad (Ok parts) f = (ap (λ (cs : List Call). c ∷ cs) f.0, ap (λ (ts : List Step). given s c ∷ ts) f.1, f.2)
follows_one n s other line (Some c) entries bad (Err m) f = f

follows : (n : ℕ) (s : State) (other : SeenState) (lines : List (List ℕ)) → Follows s (entries_from n s other lines) (bad_from n lines) (parts_from n false 0 lines)
follows n s other [] = (refl, refl, refl)
follows n s other (line ∷ lines) =
    rw (line_read n line lines) (follows_one n s other line (script_call false line) (entries_from (n + 1) (next_of s (script_call false line)) (seen_of s other (script_call false line)) lines) (bad_from (n + 1) lines) (parts_from (n + 1) false 0 lines) (follows (n + 1) (next_of s (script_call false line)) (seen_of s other (script_call false line)) lines))

-- the parts of a script behind its head
parts_show : (head : Head) (r : Result Parts ℕ) (run : Run) → run.head ≡ lines_of head.1 → Follows (begun head.0) run.entries run.bad r → Shows run (made head (onto_parts [] [] r))
parts_show head (Ok parts) run e f = (e, f.0, f.1 ∙ given_from head.0 parts.0, f.2)
parts_show head (Err n) run e f = f

head_shows : (lines : List (List ℕ)) (head : Result Head ℕ) → Shows (run_by lines head) (with_parts 0 head)
head_shows lines (Ok head) =
    parts_show head (parts_from head.2 false 0 head.3) (run_by lines (Ok head)) refl (follows head.2 (begun head.0) no_faces head.3)
head_shows lines (Err n) = refl

-- the run of lines shows the script that they are
pub run_shows : (lines : List (List ℕ)) (run : Run) → run ≡ run_of lines → Shows run (script_of 0 lines)
run_shows lines run e = rw e (head_shows lines (head_of lines))

-- the run of lines that have a head
pub run_headed : (lines : List (List ℕ)) (head : Head) (run : Run) → head_of lines ≡ Ok head → run ≡ run_by lines (Ok head) → run ≡ run_of lines
run_headed lines head run e f = rw (e, f) refl

-- the run of lines that have no head
pub run_headless : (lines : List (List ℕ)) (n : ℕ) (run : Run) → head_of lines ≡ Err n → run ≡ run_by lines (Err n) → run ≡ run_of lines
run_headless lines n run e f = rw (e, f) refl
