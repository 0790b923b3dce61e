-- The bad lines of a script, from the first on.
use Rattle.std.proofs.Common.{◌≡◌, ℕ, ◌+◌, ◌-◌, List, [], ◌∷◌, ◌++◌, Option, Some, None, Result, Ok, Err, refl, ap, sym, ◌∙◌, Bool, true, false, append_assoc}
use Rattle.std.proofs.lemmas.List.{append-nil}
use Rattle.std.specs.Prelude.{◌&&◌, codes, nat_lt}
use Rattle.std.specs.Str.{bytes_eq}
use Rattle.zq_machine.specs.declared.call.Call.{Call}
use Rattle.zq_machine.specs.Configs.{bad_config}
use Rattle.zq_machine.specs.declared.config.BadConfig.{BadConfig}
use Rattle.zq_io.proofs.Back.{same_bytes}
use Rattle.zq_lines.specs.Lines.{call_by, other_by}
use Rattle.zq_script.specs.Bad.{bad_calls, bad_line, bad_lines, first_number, is_config, stop_of, unless_call}
use Rattle.zq_script.specs.Head.{Head, behind_config, config_of, head_of}
use Rattle.zq_script.specs.Script.{Parts, made, new_part, onto, onto_parts, parts_from, script_call, script_of, with_line}
use Rattle.zq_script.specs.Conversation.{Said}
use Rattle.zq_script.specs.declared.bad.BadLine.{BadLine}

-- a line `worker` that may stand is passed over
pub worker_on : (n : ℕ) (shared : Bool) (left : ℕ) (line : List ℕ) (lines rest : List (List ℕ)) (found : List BadLine) → rest ≡ line ∷ lines → bytes_eq line (codes "worker") ≡ true → nat_lt 0 left ≡ true
    → found ++ bad_calls n shared left rest ≡ found ++ bad_calls (n + 1) shared (left - 1) lines
worker_on n shared left line lines rest found e f g = rw (e, f, g) refl

unless_more : (n : ℕ) (line : List ℕ) (o : Option Call) (found bad : List BadLine) → (found ++ unless_call n line o []) ++ bad ≡ found ++ unless_call n line o bad
unless_more n line None found bad = append_assoc found (bad_line n line ∷ []) bad
unless_more n line (Some c) found bad = ap (λ l. l ++ bad) (append-nil found)

-- another line is bad unless it is a call
pub call_on : (n : ℕ) (shared : Bool) (left : ℕ) (line : List ℕ) (lines rest : List (List ℕ)) (found : List BadLine) → rest ≡ line ∷ lines → (bytes_eq line (codes "worker") && nat_lt 0 left) ≡ false
    → found ++ bad_calls n shared left rest ≡ (found ++ unless_call n line (script_call shared line) []) ++ bad_calls (n + 1) shared left lines
call_on n shared left line lines rest found e f =
    rw (e, f) (sym (unless_more n line (script_call shared line) found (bad_calls (n + 1) shared left lines)))

-- a line `worker` is no call
worker_call : (shared : Bool) → script_call shared (codes "worker") ≡ None
unfolding call_by other_by
worker_call shared = refl

stop_new : (r : Result Parts ℕ) → stop_of (new_part r) ≡ stop_of r
stop_new (Ok parts) = refl
stop_new (Err n) = refl

stop_onto : (c : Call) (r : Result Parts ℕ) → stop_of (onto c r) ≡ stop_of r
stop_onto c (Ok parts) = refl
stop_onto c (Err n) = refl

line_stops : (n : ℕ) (line : List ℕ) (o : Option Call) (bad : List BadLine) (r : Result Parts ℕ) → first_number bad ≡ stop_of r → first_number (unless_call n line o bad) ≡ stop_of (with_line n o r)
line_stops n line None bad r e = refl
line_stops n line (Some c) bad r e = e ∙ sym (stop_onto c r)

-- the first bad one of lines is that at which reading them stops
stops_by : (t u : Bool) (n : ℕ) (shared : Bool) (left : ℕ) (line : List ℕ) (lines : List (List ℕ)) → bytes_eq line (codes "worker") ≡ t → nat_lt 0 left ≡ u
    → first_number (bad_calls (n + 1) shared (left - 1) lines) ≡ stop_of (parts_from (n + 1) shared (left - 1) lines)
    → first_number (bad_calls (n + 1) shared left lines) ≡ stop_of (parts_from (n + 1) shared left lines)
    → first_number (bad_calls n shared left (line ∷ lines)) ≡ stop_of (parts_from n shared left (line ∷ lines))
stops_by true true n shared left line lines e f less same = rw (e, f) (less ∙ sym (stop_new (parts_from (n + 1) shared (left - 1) lines)))
stops_by true false n shared left line lines e f less same = rw (same_bytes line (codes "worker") e) (rw (f, worker_call shared) refl)
stops_by false u n shared left line lines e f less same = rw e (line_stops n line (script_call shared line) (bad_calls (n + 1) shared left lines) (parts_from (n + 1) shared left lines) same)

calls_stop : (n : ℕ) (shared : Bool) (left : ℕ) (lines : List (List ℕ)) → first_number (bad_calls n shared left lines) ≡ stop_of (parts_from n shared left lines)
calls_stop n shared left [] = refl
calls_stop n shared left (line ∷ lines) =
    stops_by (bytes_eq line (codes "worker")) (nat_lt 0 left) n shared left line lines refl refl (calls_stop (n + 1) shared (left - 1) lines) (calls_stop (n + 1) shared left lines)

stop_made : (head : Head) (r : Result Parts ℕ) → stop_of (made head (onto_parts [] [] r)) ≡ stop_of r
stop_made head (Ok parts) = refl
stop_made head (Err n) = refl

-- a script of this head
head_stops : (workers n : ℕ) (lines all : List (List ℕ)) (head : Head) → head_of all ≡ Ok head → head.2 ≡ n → head.3 ≡ lines
    → first_number (bad_calls n (nat_lt 0 workers) workers lines) ≡ stop_of (script_of workers all)
head_stops workers n lines all head e f g =
    calls_stop n (nat_lt 0 workers) workers lines
    ∙ rw (← f, ← g, e) (sym (stop_made head (parts_from head.2 (nat_lt 0 workers) workers head.3)))

entries_stop : (workers : ℕ) (line : List ℕ) (lines : List (List ℕ)) (c : Said) (o : Option BadConfig) → config_of line ≡ Some c → bad_config c.2 ≡ o
    → first_number (bad_lines workers (line ∷ lines)) ≡ stop_of (script_of workers (line ∷ lines))
entries_stop workers line lines c None e f =
    let b = behind_config line lines in
    let is : is_config line ≡ true = rw (e, f) refl in
    let head : head_of (line ∷ lines) ≡ Ok (record { zid = c.0; entries = c.2; timeout = c.1; start = b.start; best = b.best }, b.text, b.number, b.lines) = rw (e, f) refl in
    rw is (head_stops workers b.number b.lines (line ∷ lines) (record { zid = c.0; entries = c.2; timeout = c.1; start = b.start; best = b.best }, b.text, b.number, b.lines) head refl refl)
entries_stop workers line lines c (Some x) e f =
    let is : is_config line ≡ false = rw (e, f) refl in
    let head : head_of (line ∷ lines) ≡ Err 1 = rw (e, f) refl in
    rw (is, head) refl

config_stops : (workers : ℕ) (line : List ℕ) (lines : List (List ℕ)) (o : Option Said) → config_of line ≡ o → first_number (bad_lines workers (line ∷ lines)) ≡ stop_of (script_of workers (line ∷ lines))
config_stops workers line lines None e =
    let is : is_config line ≡ false = rw e refl in
    rw (is, e) refl
config_stops workers line lines (Some c) e = entries_stop workers line lines c (bad_config c.2) e refl

-- the first bad line of a script is that at which reading it stops
pub first_is_stop : (workers : ℕ) (lines : List (List ℕ)) → first_number (bad_lines workers lines) ≡ stop_of (script_of workers lines)
first_is_stop workers [] = refl
first_is_stop workers (line ∷ lines) = config_stops workers line lines (config_of line) refl
