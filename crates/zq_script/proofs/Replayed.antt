-- The lines that a conversation takes are a script, and what they are answered is its print.
use Rattle.std.proofs.Common.{◌≡◌, ℕ, ◌+◌, List, [], ◌∷◌, ◌++◌, Option, Some, None, Result, Ok, Err, refl, ap, ◌∙◌, false, inl, inr}
use Rattle.std.specs.Prelude.{IfSome}
use Rattle.std.specs.Option.{unwrap_or}
use Rattle.zq_route.specs.declared.selection.Best.{Best}
use Rattle.zq_io.specs.Words.{◌>>=◌}
use Rattle.zq_lines.specs.Split.{lines_of}
use Rattle.zq_machine.specs.declared.call.Call.{Call}
use Rattle.zq_machine.specs.declared.config.Counters.{Counters}
use Rattle.zq_machine.specs.Configs.{Settings, no_counts, usual_best}
use Rattle.zq_machine.specs.Machine.{after, step}
use Rattle.zq_machine.specs.State.{State, opening_state}
use Rattle.zq_lines.specs.Steps.{step_words}
use Rattle.zq_script.specs.Head.{best_of, config_of, configured, ended, head_of, start_of}
use Rattle.zq_script.specs.Live.{Answer, IsReplayed, all_words, answer, answers, good_answers, good_lines}
use Rattle.zq_script.specs.Printing.{printed, printed_by, printed_on}
use Rattle.zq_script.specs.Script.{Parts, onto, parts_from, script_call, script_of, with_line}
use Rattle.zq_script.specs.Conversation.{Said, Spoken, Taken, fresh, opened, or_best, or_call, take_call, then}
use Rattle.zq_script.proofs.Printed.{line_read, script_printed}

-- behind all lines of the head
abbrev calling : State → Spoken
calling s = record { state = Some s; said = None; start = None }

-- behind the line `config`, or behind a line `start`, too
abbrev headed : State → Said → Option Counters → Spoken
headed s c start = record { state = Some s; said = Some c; start = start }

-- what they were answered
abbrev good_words : List Answer → List ℕ
good_words said = all_words (good_answers said)

-- what lines of the head come to, once they are read
abbrev config_taken : Option Said → Option Taken
config_taken o = o >>= (λ c. opened (Some c) None (configured c no_counts usual_best))

abbrev start_taken : Said → Option Counters → Option (Option Taken)
start_taken c o = o >>= (λ start. Some (opened (Some c) (Some start) (configured c start usual_best)))

abbrev best_taken : Said → Option Counters → Option Best → Option (Option Taken)
best_taken c start o = o >>= (λ choice. Some (opened None None (configured c (unwrap_or start no_counts) choice)))

-- said calls of lines from a number on, in a state
abbrev Replays : ℕ → State → List Answer → Type 0
Replays m s said = printed_by s (parts_from m false 0 (good_lines said)) ≡ Ok (good_words said)

-- a call before the others
called : (s : State) (c : Call) (r : Result Parts ℕ) (w : List ℕ) → printed_by (after s c) r ≡ Ok w → printed_by s (onto c r) ≡ Ok (step_words (step s c) ++ w)
called s c (Ok parts) w e = ap (printed_on (step_words (step s c))) e
called s c (Err n) w e = ap (printed_on (step_words (step s c))) e

call_first : (m : ℕ) (s : State) (c : Call) (line : List ℕ) (said : List Answer) → script_call false line ≡ Some c → Replays (m + 1) (after s c) said
    → printed_by s (parts_from m false 0 (line ∷ good_lines said)) ≡ Ok (step_words (step s c) ++ good_words said)
call_first m s c line said e more =
    ap (printed_by s) (line_read m line (good_lines said))
    ∙ ap (λ (o : Option Call). printed_by s (with_line m o (parts_from (m + 1) false 0 (good_lines said)))) e
    ∙ called s c (parts_from (m + 1) false 0 (good_lines said)) (good_words said) more

call_by : (n m : ℕ) (s : State) (line : List ℕ) (lines : List (List ℕ)) (o : Option Call) → script_call false line ≡ o
    → ((i k : ℕ) (t : State) → Replays k t (answers i (calling t) lines))
    → Replays m s (answer n (calling s) line (take_call s o) ∷ answers (n + 1) (then (calling s) (take_call s o)) lines)
call_by n m s line lines None e more = more (n + 1) m s
call_by n m s line lines (Some c) e more = call_first m s c line (answers (n + 1) (calling (after s c)) lines) e (more (n + 1) (m + 1) (after s c))

calls_replayed : (lines : List (List ℕ)) (n m : ℕ) (s : State) → Replays m s (answers n (calling s) lines)
calls_replayed [] n m s = refl
calls_replayed (line ∷ lines) n m s = call_by n m s line lines (script_call false line) refl (λ i k t. calls_replayed lines i k t)

-- behind lines of a head that say these settings, a line `best` may come, or calls
module _ (front : List (List ℕ) → List (List ℕ)) (c : Said) (start : Option Counters) (k : Settings) (text : List ℕ) (m : ℕ) (Fits : List ℕ → Type 0) where
  -- said a script behind those lines
  abbrev Scripted : List Answer → Type 0
  Scripted said = printed (script_of 0 (front (good_lines said))) ≡ Ok (good_words said)

  module _ (none : head_of (front []) ≡ Ok (k, text, m, []))
      (plain : (line : List ℕ) (lines : List (List ℕ)) → Fits line → best_of line ≡ None → head_of (front (line ∷ lines)) ≡ Ok (k, text, m, line ∷ lines))
      (chosen : (line : List ℕ) (lines : List (List ℕ)) (choice : Best) (l : Settings) → Fits line → best_of line ≡ Some choice → configured c (unwrap_or start no_counts) choice ≡ Ok l
      → head_of (front (line ∷ lines)) ≡ Ok (l, text ++ ended line, m + 1, lines)) where
    no_more : Scripted []
    no_more = script_printed (front []) (k, text, m, []) none

    best_by : (n : ℕ) (line : List ℕ) (lines : List (List ℕ)) (choice : Best) (r : Result Settings ℕ) → Fits line → best_of line ≡ Some choice → configured c (unwrap_or start no_counts) choice ≡ r
        → ((i : ℕ) → Scripted (answers i (headed (opening_state k) c start) lines))
        → Scripted (answer n (headed (opening_state k) c start) line (opened None None r) ∷ answers (n + 1) (then (headed (opening_state k) c start) (opened None None r)) lines)
    best_by n line lines choice (Err i) f g h more = more (n + 1)
    best_by n line lines choice (Ok l) f g h more =
        let rest = answers (n + 1) (calling (opening_state l)) lines in
        script_printed (front (line ∷ good_lines rest)) (l, text ++ ended line, m + 1, good_lines rest) (chosen line (good_lines rest) choice l f g h)
        ∙ calls_replayed lines (n + 1) (m + 1) (opening_state l)

    first_call : (n : ℕ) (line : List ℕ) (lines : List (List ℕ)) (o : Option Call) → Fits line → best_of line ≡ None → script_call false line ≡ o
        → ((i : ℕ) → Scripted (answers i (headed (opening_state k) c start) lines))
        → Scripted (answer n (headed (opening_state k) c start) line (take_call (opening_state k) o) ∷ answers (n + 1) (then (headed (opening_state k) c start) (take_call (opening_state k) o)) lines)
    first_call n line lines None f g h more = more (n + 1)
    first_call n line lines (Some x) f g h more =
        let s = opening_state k in
        let rest = answers (n + 1) (calling (after s x)) lines in
        script_printed (front (line ∷ good_lines rest)) (k, text, m, line ∷ good_lines rest) (plain line (good_lines rest) f g)
        ∙ call_first m s x line rest h (calls_replayed lines (n + 1) (m + 1) (after s x))

    best_or_call : (n : ℕ) (line : List ℕ) (lines : List (List ℕ)) (o : Option Best) → Fits line → best_of line ≡ o
        → ((i : ℕ) → Scripted (answers i (headed (opening_state k) c start) lines))
        → Scripted (answer n (headed (opening_state k) c start) line (or_call (opening_state k) line (best_taken c start o))
        ∷ answers (n + 1) (then (headed (opening_state k) c start) (or_call (opening_state k) line (best_taken c start o))) lines)
    best_or_call n line lines None f g more = first_call n line lines (script_call false line) f g refl more
    best_or_call n line lines (Some choice) f g more = best_by n line lines choice (configured c (unwrap_or start no_counts) choice) f g refl more

-- behind a line `config` that says these settings
module _ (first : List ℕ) (c : Said) (e : config_of first ≡ Some c) where
  -- and behind a line `start`
  module _ (second : List ℕ) (start : Counters) (g : start_of second ≡ Some start) (k : Settings) (f : configured c start usual_best ≡ Ok k) where
    abbrev front : List (List ℕ) → List (List ℕ)
    front lines = first ∷ second ∷ lines

    abbrev text : List ℕ
    text = ended first ++ ended second

    started_none : head_of (front []) ≡ Ok (k, text, 3, [])
    started_none = rw (e, g, f) refl

    started_plain : (line : List ℕ) (lines : List (List ℕ)) → Unit {0} → best_of line ≡ None → head_of (front (line ∷ lines)) ≡ Ok (k, text, 3, line ∷ lines)
    started_plain line lines u b = rw (e, g, b, f) refl

    started_best : (line : List ℕ) (lines : List (List ℕ)) (choice : Best) (l : Settings) → Unit {0} → best_of line ≡ Some choice → configured c start choice ≡ Ok l
        → head_of (front (line ∷ lines)) ≡ Ok (l, text ++ ended line, 4, lines)
    started_best line lines choice l u b h = rw (e, g, b, h) refl

    started_replayed : (lines : List (List ℕ)) (n : ℕ) → Scripted front c (Some start) k text 3 (λ line. Unit {0}) (answers n (headed (opening_state k) c (Some start)) lines)
    started_replayed [] n = no_more front c (Some start) k text 3 (λ line. Unit {0}) started_none started_plain started_best
    started_replayed (line ∷ lines) n =
        best_or_call front c (Some start) k text 3 (λ line. Unit {0}) started_none started_plain started_best n line lines (best_of line) tt refl (λ i. started_replayed lines i)

  module _ (k : Settings) (f : configured c no_counts usual_best ≡ Ok k) where
    abbrev Scripts : List Answer → Type 0
    Scripts said = printed (script_of 0 (first ∷ good_lines said)) ≡ Ok (good_words said)

    abbrev IsNoStart : List ℕ → Type 0
    IsNoStart line = start_of line ≡ None

    plain_none : head_of (first ∷ []) ≡ Ok (k, ended first, 2, [])
    plain_none = rw (e, f) refl

    plain_more : (line : List ℕ) (lines : List (List ℕ)) → IsNoStart line → best_of line ≡ None → head_of (first ∷ line ∷ lines) ≡ Ok (k, ended first, 2, line ∷ lines)
    plain_more line lines g b = rw (e, g, b, f) refl

    plain_best : (line : List ℕ) (lines : List (List ℕ)) (choice : Best) (l : Settings) → IsNoStart line → best_of line ≡ Some choice → configured c no_counts choice ≡ Ok l
        → head_of (first ∷ line ∷ lines) ≡ Ok (l, ended first ++ ended line, 3, lines)
    plain_best line lines choice l g b h = rw (e, g, b, h) refl

    start_by : (n : ℕ) (line : List ℕ) (lines : List (List ℕ)) (start : Counters) (r : Result Settings ℕ) → start_of line ≡ Some start → configured c start usual_best ≡ r
        → ((i : ℕ) → Scripts (answers i (headed (opening_state k) c None) lines))
        → Scripts (answer n (headed (opening_state k) c None) line (opened (Some c) (Some start) r) ∷ answers (n + 1) (then (headed (opening_state k) c None) (opened (Some c) (Some start) r)) lines)
    start_by n line lines start (Err i) g h more = more (n + 1)
    start_by n line lines start (Ok l) g h more = started_replayed line start g l h lines (n + 1)

    second_by : (n : ℕ) (line : List ℕ) (lines : List (List ℕ)) (o : Option Counters) → start_of line ≡ o
        → ((i : ℕ) → Scripts (answers i (headed (opening_state k) c None) lines))
        → Scripts (answer n (headed (opening_state k) c None) line (or_call (opening_state k) line (or_best (headed (opening_state k) c None) line (start_taken c o)))
        ∷ answers (n + 1) (then (headed (opening_state k) c None) (or_call (opening_state k) line (or_best (headed (opening_state k) c None) line (start_taken c o)))) lines)
    second_by n line lines None g more =
        best_or_call (λ ls. first ∷ ls) c None k (ended first) 2 IsNoStart plain_none plain_more plain_best n line lines (best_of line) g refl more
    second_by n line lines (Some start) g more = start_by n line lines start (configured c start usual_best) g refl more

    headed_replayed : (lines : List (List ℕ)) (n : ℕ) → Scripts (answers n (headed (opening_state k) c None) lines)
    headed_replayed [] n = no_more (λ ls. first ∷ ls) c None k (ended first) 2 IsNoStart plain_none plain_more plain_best
    headed_replayed (line ∷ lines) n = second_by n line lines (start_of line) refl (λ i. headed_replayed lines i)

config_by : (n : ℕ) (line : List ℕ) (lines : List (List ℕ)) (c : Said) (r : Result Settings ℕ) → config_of line ≡ Some c → configured c no_counts usual_best ≡ r
    → ((i : ℕ) → IsReplayed (answers i fresh lines))
    → IsReplayed (answer n fresh line (opened (Some c) None r) ∷ answers (n + 1) (then fresh (opened (Some c) None r)) lines)
config_by n line lines c (Err i) e f more = more (n + 1)
config_by n line lines c (Ok k) e f more = inr (headed_replayed line c e k f lines (n + 1))

first_by : (n : ℕ) (line : List ℕ) (lines : List (List ℕ)) (o : Option Said) → config_of line ≡ o
    → ((i : ℕ) → IsReplayed (answers i fresh lines))
    → IsReplayed (answer n fresh line (config_taken o) ∷ answers (n + 1) (then fresh (config_taken o)) lines)
first_by n line lines None e more = more (n + 1)
first_by n line lines (Some c) e more = config_by n line lines c (configured c no_counts usual_best) e refl more

replayed_from : (lines : List (List ℕ)) (n : ℕ) → IsReplayed (answers n fresh lines)
replayed_from [] n = inl refl
replayed_from (line ∷ lines) n = first_by n line lines (config_of line) refl (λ i. replayed_from lines i)

-- whatever a source gives
pub replayed : (given : Option (List ℕ)) → IfSome given (λ input. IsReplayed (answers 1 fresh (lines_of input)))
replayed None = tt
replayed (Some input) = replayed_from (lines_of input) 1
