-- What is printed of a run in a namespace is what is printed of the run in none.
use Rattle.std.proofs.Common.{◌≡◌, ◌∙◌, refl, sym, ap, ℕ, true, List, [], ◌∷◌, length, map}
use Rattle.std.specs.Prelude.{IfOk, Result, Ok, Err, suc}
use Rattle.zq_key.specs.Key.{is_plain}
use Rattle.zq_message.specs.declared.message.Message.{Message}
use Rattle.zq_machine.specs.declared.call.Call.{Call}
use Rattle.zq_machine.specs.Configs.{Settings}
use Rattle.zq_machine.specs.Machine.{after, steps, steps_from}
use Rattle.zq_machine.specs.State.{State, opening_state}
use Rattle.zq_moved.specs.Inside.{outcome_of}
use Rattle.zq_moved.specs.Moving.{can_move, moved, moved_call}
use Rattle.zq_moved.specs.Received.{received}
use Rattle.zq_moved.proofs.Nested.{received_same}
use Rattle.zq_moved.proofs.Runs.{moves_unnoticed}
use Rattle.zq_session.specs.Session.{faces_words, inside_words, run_words}

-- ---- steps are as many as calls
as_long_from : (n : List ℕ) (s : State) (calls : List Call) → length calls ≡ length (steps_from s (moved n calls))
as_long_from n s [] = refl
as_long_from n s (c ∷ calls) = ap suc (as_long_from n (after s (moved_call n c)) calls)

pub as_long_inside : (config : Settings) (n : List ℕ) (calls : List Call) → length calls ≡ length (steps config (moved n calls))
as_long_inside config n calls = as_long_from n (opening_state config) calls

-- ---- the print
-- by the calls themselves
pub printed_inside : (config : Settings) (n : List ℕ) (calls : List Call) → run_words calls (steps config (moved n calls)) ≡ inside_words config n calls
printed_inside config n calls =
    let there = steps config (moved n calls) in
    let reads : ◌≡◌ {A = ℕ → List Message} (λ face. received face calls there) (λ face. received face (moved n calls) there) = λ j. λ face. sym (received_same n face calls there) j in
    ap (λ r. faces_words r (map outcome_of there)) reads

-- in no namespace
pub printed_same : (config : Settings) (n : List ℕ) (calls : List Call) → is_plain n ≡ true → can_move calls ≡ true → run_words calls (steps config (moved n calls)) ≡ run_words calls (steps config calls)
printed_same config n calls plain moves =
    let is = moves_unnoticed config n calls plain moves in
    let reads : ◌≡◌ {A = ℕ → List Message} (λ face. received face (moved n calls) (steps config (moved n calls))) (λ face. received face calls (steps config calls)) = λ j. λ face. is.messages face j in
    printed_inside config n calls ∙ (λ j. faces_words (reads j) (is.outcomes j))

-- a print that is one text is another, where both are the same
pub printed_as : {E : Type 0} (r : Result (List ℕ) E) (x y : List ℕ) → IfOk r (λ b. b ≡ x) → x ≡ y → IfOk r (λ b. b ≡ y)
printed_as (Ok b) x y is same = is ∙ same
printed_as (Err e) x y is same = tt
