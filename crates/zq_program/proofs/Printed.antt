-- The print of calls so far, and of those that are left.
use Rattle.std.proofs.Common.{◌≡◌, ℕ, ◌+◌, ◌<◌, List, ◌∷◌, ◌++◌, ap, sym, ◌∙◌, suc, drop, get_or, length, append_assoc, add-one}
use Rattle.std.proofs.Math.Seq.{drop-cons}
use Rattle.zq_machine.specs.declared.call.Call.{Call}
use Rattle.zq_machine.specs.Machine.{after, step, steps_from}
use Rattle.zq_machine.specs.State.{State}
use Rattle.zq_lines.specs.Steps.{step_words, steps_words}

-- the next call is answered and printed
printed_on : (calls : List Call) (n : ℕ) (c : Call) (s : State) (before all : List ℕ) → n < length calls → c ≡ get_or calls n c → before ++ steps_words (steps_from s (drop n calls)) ≡ all
    → (before ++ step_words (step s c)) ++ steps_words (steps_from (after s c) (drop (n + 1) calls)) ≡ all
printed_on calls n c s before all within is told =
    append_assoc before (step_words (step s c)) (steps_words (steps_from (after s c) (drop (n + 1) calls)))
    ∙ ap (λ (l : List Call). before ++ steps_words (steps_from s l)) (ap (λ (m : ℕ). c ∷ drop m calls) (add-one n) ∙ ap (λ (x : Call). x ∷ drop (suc n) calls) is ∙ sym (drop-cons calls n c within))
    ∙ told

pub next_printed : (calls : List Call) (n : ℕ) (c : Call) (s then : State) (before now all : List ℕ) → n < length calls → c ≡ get_or calls n c → then ≡ after s c → now ≡ before ++ step_words (step s c) → before ++ steps_words (steps_from s (drop n calls)) ≡ all
    → now ++ steps_words (steps_from then (drop (n + 1) calls)) ≡ all
next_printed calls n c s then before now all within is after_is now_is told =
    rw (after_is, now_is) (printed_on calls n c s before all within is told)
