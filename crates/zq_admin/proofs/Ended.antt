-- The final behind what was made, and what an answer comes to.
use Rattle.std.proofs.Common.{◌≡◌, ◌∙◌, refl, sym, ap, subst, ℕ, List, [], ◌∷◌, ◌++◌, Result, Ok, Err, OnErr, OnOk}
use Rattle.zq_message.specs.declared.message.FaceId.{FaceId}
use Rattle.zq_machine.specs.declared.call.Call.TheVariants as call
use Rattle.zq_machine.specs.declared.call.Step.{Step}
use Rattle.zq_machine.specs.Machine.{after, step}
use Rattle.zq_machine.specs.State.{State}
use Rattle.zq_admin.specs.declared.refusal.AdminRefusal.{AdminRefusal}
use Rattle.zq_admin.specs.declared.refusal.AdminRefusal.TheVariants as refusal
use Rattle.zq_admin.specs.Entries.{Entry}
use Rattle.zq_admin.specs.Admin.{Answers, AreCut, AreMade}
use Rattle.zq_admin.specs.Answering.{Made, with_answer, with_final, with_replies}

pub final_made : (own : FaceId) (rid : ℕ) (m : Made) (l r : List Step) (s z : State) → AreMade m l s → r ≡ l ++ step s (call.ResponseFinal own rid) ∷ [] → z ≡ after s (call.ResponseFinal own rid) → AreMade (with_final own rid m) r z
unfolding with_final
final_made own rid m l r s z k e f = record {
  steps = e ∙ (λ j. k.steps j ++ step (k.state j) (call.ResponseFinal own rid) ∷ []);
  state = f ∙ ap (λ x. after x (call.ResponseFinal own rid)) k.state;
}

pub final_cut : (own : FaceId) (rid : ℕ) (m : Made) (es : List Entry) (l r : List Step) (s z : State) → AreCut (with_replies own rid m) es l s → r ≡ l ++ step s (call.ResponseFinal own rid) ∷ [] → z ≡ after s (call.ResponseFinal own rid)
    → AreCut (with_answer own rid m) es r z
final_cut own rid m es l r s z k e f = record { front = k.front; rest = k.rest; split = k.split; made = final_made own rid (with_replies own rid m k.front) l r s z k.made e f }

-- no entry was answered
pub none_cut : (own : FaceId) (rid : ℕ) (m : Made) (es : List Entry) (l r : List Step) (s z : State) → AreMade m l s → r ≡ l ++ step s (call.ResponseFinal own rid) ∷ [] → z ≡ after s (call.ResponseFinal own rid)
    → AreCut (with_answer own rid m) es r z
none_cut own rid m es l r s z k e f = record { front = []; rest = es; split = refl; made = final_made own rid m l r s z k e f }

pub ok_map : {X E : Type 0} (r : Result X E) (P Q : Type 0) → (P → Q) → OnOk r P → OnOk r Q
ok_map (Ok x) P Q f p = f p
ok_map (Err e) P Q f p = tt

pub err_map : {X E : Type 0} (r : Result X E) (P Q : Type 0) → (P → Q) → OnErr r P → OnErr r Q
err_map (Ok x) P Q f p = tt
err_map (Err e) P Q f p = f p

-- what was answered, whole or cut off, is answered of the same entries
pub given_answers : {X E : Type 0} (answer : List Entry → Made) (es all : List Entry) (a : Result X E) (steps : List Step) (left : State) (r : Result (List Step) AdminRefusal) → OnOk a (AreMade (answer es) steps left) → OnErr a (AreCut answer es steps left) → OnOk a (r ≡ Ok steps) → OnErr a (r ≡ Err (refusal.Cut steps)) → es ≡ all → Answers answer all r left
given_answers answer es all (Ok x) steps left r made cut whole short same =
    subst (λ (q : Result (List Step) AdminRefusal). Answers answer all q left) (sym whole) (subst (λ (l : List Entry). AreMade (answer l) steps left) same made)
given_answers answer es all (Err x) steps left r made cut whole short same =
    subst (λ (q : Result (List Step) AdminRefusal). Answers answer all q left) (sym short) (subst (λ (l : List Entry). AreCut answer l steps left) same cut)
