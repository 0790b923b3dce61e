-- What `steps` gives at a place.
use Rattle.std.proofs.Common.{◌≡◌, ℕ, List, [], ◌∷◌, ◌++◌, length, Some, slice_get, refl, sym, ap, ◌∙◌, arith}
use Rattle.std.proofs.lemmas.List.{length-map, map-append}
use mathlib.Core.List.{IsPrefix}
use Rattle.zq_machine.specs.declared.call.Call.{Call}
use Rattle.zq_machine.specs.declared.call.Step.{Step}
use Rattle.zq_machine.specs.Configs.{Settings}
use Rattle.zq_machine.specs.Machine.{after, state_after, step, steps, steps_from}
use Rattle.zq_machine.specs.State.{State, opening_state}
use Rattle.zq_shared.specs.Stored.{Stored, answer_to}
use Rattle.zq_shared.proofs.Journals.{answer_is}
use Rattle.zq_journal_view.proofs.Prefixes.{prefix_length}
use Rattle.zq_pass.specs.Entries.{Entry, calls_of}
use Rattle.zq_pass.specs.Stepping.{IsMade}

steps_from_at : (s : State) (before : List Call) (c : Call) → slice_get (steps_from s (before ++ c ∷ [])) (length before) ≡ Some (step (state_after s before) c)
steps_from_at s [] c = refl
steps_from_at s (x ∷ xs) c = steps_from_at (after s x) xs c

last_there : {A : Type 0} (xs : List A) (x : A) → slice_get (xs ++ x ∷ []) (length xs) ≡ Some x
last_there [] x = refl
last_there (y ∷ xs) x = last_there xs x

-- a call that was just stored stands at the end of the list, and was answered what `steps` gives there
pub made_last : (config : Settings) (s : Stored) (list seen old : List Entry) (number : ℕ) (c : Call) (place : ℕ) (t : Step) → s.config ≡ config → calls_of list ≡ s.calls → seen ≡ list ++ (number, c) ∷ [] → IsPrefix old list → place ≡ length list → t ≡ answer_to s c
    → IsMade config number (length old) seen c place t
made_last config s list seen old number c place t means listed now pre at answered =
    let long : length s.calls ≡ length list = ap (λ (l : List Call). length l) (sym listed) ∙ length-map list (λ (e : Entry). e.1) in
    let cs : calls_of seen ≡ s.calls ++ c ∷ [] = ap calls_of now ∙ (map-append (λ (e : Entry). e.1) list ((number, c) ∷ []) ∙ ap (λ (l : List Call). l ++ c ∷ []) listed) in
    let gives : slice_get (steps s.config (s.calls ++ c ∷ [])) (length s.calls) ≡ Some t = steps_from_at (opening_state s.config) s.calls c ∙ ap Some (sym (answered ∙ answer_is s c)) in
    record {
      behind = (let few = prefix_length old list pre in omega (arith, few, at));
      entry = (λ i. slice_get (now i) (at i)) ∙ last_there list (number, c);
      answered = (λ i. slice_get (steps (sym means i) (cs i)) ((at ∙ sym long) i)) ∙ gives;
    }
