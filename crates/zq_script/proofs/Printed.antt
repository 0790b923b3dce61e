-- The print so far, and what is printed of the lines that are left.
use Rattle.std.proofs.Common.{◌≡◌, ℕ, ◌+◌, List, [], ◌∷◌, ◌++◌, Option, Some, None, Result, Ok, Err, refl, ap, subst, sym, ◌∙◌, Bool, true, false, append_assoc}
use Rattle.std.specs.Prelude.{codes, IfOk}
use Rattle.std.specs.Str.{bytes_eq}
use Rattle.zq_machine.specs.declared.call.Call.{Call}
use Rattle.zq_machine.specs.Machine.{after, step, steps_from}
use Rattle.zq_machine.specs.State.{State, opening_state}
use Rattle.zq_io.proofs.Back.{same_bytes}
use Rattle.zq_script.specs.Head.{Head, head_of}
use Rattle.zq_lines.specs.Lines.{call_by, other_by}
use Rattle.zq_script.specs.Printing.{FitsRun, Prints, printed, printed_by, printed_on}
use Rattle.zq_script.specs.Running.{ReadsBack}
use Rattle.zq_script.specs.Script.{Parts, made, onto, onto_parts, parts_from, script_call, script_of, with_line}
use Rattle.zq_lines.specs.Steps.{step_words, steps_words}
use Rattle.zq_lines.specs.StepsFit.{FitsStep}
use Rattle.zq_lines.proofs.StepsBack.{steps_back}

worker_call : script_call false (codes "worker") ≡ None
unfolding call_by other_by
worker_call = refl

-- without workers a line `worker` is a bad line like another
line_by : (t : Bool) (n : ℕ) (line : List ℕ) (lines : List (List ℕ)) → bytes_eq line (codes "worker") ≡ t → parts_from n false 0 (line ∷ lines) ≡ with_line n (script_call false line) (parts_from (n + 1) false 0 lines)
line_by true n line lines e =
    rw (same_bytes line (codes "worker") e) (rw worker_call refl)
line_by false n line lines e = rw e refl

pub line_read : (n : ℕ) (line : List ℕ) (lines : List (List ℕ)) → parts_from n false 0 (line ∷ lines) ≡ with_line n (script_call false line) (parts_from (n + 1) false 0 lines)
line_read n line lines = line_by (bytes_eq line (codes "worker")) n line lines refl

-- a call is answered and printed
call_printed : (print : List ℕ) (s : State) (c : Call) (r : Result Parts ℕ) → printed_on (print ++ step_words (step s c)) (printed_by (after s c) r) ≡ printed_on print (printed_by s (onto c r))
call_printed print s c (Ok parts) = ap (λ x. Ok x) (append_assoc print (step_words (step s c)) (steps_words (steps_from (after s c) parts.0)))
call_printed print s c (Err n) = refl

call_fits : (s : State) (c : Call) (r : Result Parts ℕ) → FitsStep (step s c) → FitsRun (after s c) r → FitsRun s (onto c r)
call_fits s c (Ok parts) f g = (f, g)
call_fits s c (Err n) f g = tt

pub call_prints : (o : Option Call) (c : Call) (s then : State) (print more : List ℕ) → o ≡ Some c → then ≡ after s c → more ≡ print ++ step_words (step s c) → FitsStep (step s c) → Prints o s print then more
call_prints o c s then print more e f g fit =
    rw (e, f, g) (record {
      told = λ n r. call_printed print s c r;
      fits = λ n r. call_fits s c r fit;
    })

-- the lines that are left begin with this one
begun : (n : ℕ) (line : List ℕ) (lines rest : List (List ℕ)) → rest ≡ line ∷ lines → with_line n (script_call false line) (parts_from (n + 1) false 0 lines) ≡ parts_from n false 0 rest
begun n line lines rest e = rw e (sym (line_read n line lines))

pub next_told : (n : ℕ) (line : List ℕ) (lines rest : List (List ℕ)) (s then : State) (print more : List ℕ) (whole : Result (List ℕ) ℕ) → rest ≡ line ∷ lines → Prints (script_call false line) s print then more → printed_on print (printed_by s (parts_from n false 0 rest)) ≡ whole → printed_on more (printed_by then (parts_from (n + 1) false 0 lines)) ≡ whole
next_told n line lines rest s then print more whole e p i =
    p.told n (parts_from (n + 1) false 0 lines) ∙ ap (λ (r : Result Parts ℕ). printed_on print (printed_by s r)) (begun n line lines rest e) ∙ i

pub next_fits : (n : ℕ) (line : List ℕ) (lines rest : List (List ℕ)) (s then : State) (print more : List ℕ) (W : Type 0) → rest ≡ line ∷ lines → Prints (script_call false line) s print then more → (FitsRun s (parts_from n false 0 rest) → W) → FitsRun then (parts_from (n + 1) false 0 lines) → W
next_fits n line lines rest s then print more W e p i f =
    let on : FitsRun s (with_line n (script_call false line) (parts_from (n + 1) false 0 lines)) = p.fits n (parts_from (n + 1) false 0 lines) f in
    i (subst (FitsRun s) (begun n line lines rest e) on)

pub line_bad : (n : ℕ) (line : List ℕ) (lines rest : List (List ℕ)) (s : State) (print : List ℕ) (whole : Result (List ℕ) ℕ) → rest ≡ line ∷ lines → script_call false line ≡ None → printed_on print (printed_by s (parts_from n false 0 rest)) ≡ whole → whole ≡ Err n
line_bad n line lines rest s print whole e f i =
    sym i ∙ ap (λ (r : Result Parts ℕ). printed_on print (printed_by s r)) (sym (begun n line lines rest e)) ∙ ap (λ (o : Option Call). printed_on print (printed_by s (with_line n o (parts_from (n + 1) false 0 lines)))) f

-- a script of this head
script_by : (head : Head) (r : Result Parts ℕ) → printed (made head (onto_parts [] [] r)) ≡ printed_by (opening_state head.0) r
script_by head (Ok parts) = refl
script_by head (Err n) = refl

pub script_printed : (lines : List (List ℕ)) (head : Head) → head_of lines ≡ Ok head → printed (script_of 0 lines) ≡ printed_by (opening_state head.0) (parts_from head.2 false 0 head.3)
script_printed lines head e = rw e (script_by head (parts_from head.2 false 0 head.3))

back_by : (head : Head) (r : Result Parts ℕ) → FitsRun (opening_state head.0) r → IfOk (made head (onto_parts [] [] r)) ReadsBack
back_by head (Ok parts) f = steps_back (steps_from (opening_state head.0) parts.0) f
back_by head (Err n) f = tt

pub script_back : (lines : List (List ℕ)) (head : Head) → head_of lines ≡ Ok head → FitsRun (opening_state head.0) (parts_from head.2 false 0 head.3) → IfOk (script_of 0 lines) ReadsBack
script_back lines head e f = rw e (back_by head (parts_from head.2 false 0 head.3) f)
