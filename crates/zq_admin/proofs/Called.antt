-- What a call gives, by how the request is answered that it hands the own face.
use Rattle.std.proofs.Common.{◌≡◌, refl, subst, ℕ, List, [], ◌∷◌, Option, Some, None, Result, Ok, Err}
use Rattle.std.specs.Prelude.{IfOk}
use Rattle.zq_message.specs.declared.memory.OutOfMemory.{OutOfMemory}
use Rattle.zq_message.specs.declared.message.FaceId.{FaceId}
use Rattle.zq_message.specs.declared.message.Request.{Request}
use Rattle.zq_machine.specs.declared.call.Call.{Call}
use Rattle.zq_machine.specs.declared.call.Step.{Step}
use Rattle.zq_machine.specs.Machine.{after, step}
use Rattle.zq_machine.specs.State.{State}
use Rattle.zq_admin.specs.declared.refusal.AdminRefusal.{AdminRefusal}
use Rattle.zq_admin.specs.declared.refusal.AdminRefusal.TheVariants as refusal
use Rattle.zq_admin.specs.Entries.{Entry}
use Rattle.zq_admin.specs.Admin.{Answers, AnswersStep, Calls, IsAsked}
use Rattle.zq_admin.specs.Answering.{answered, asked_own, called, due, entries_asked, entries_due, first_made, going_on, with_answer}

-- a request that is there is answered by the entries that were found for it
pub some_answered : (own : FaceId) (o : Option Request) (rid : ℕ) (found : Result (List Entry) OutOfMemory) (items : List Step) (t : Step) (s left : State) (r : Result (List Step) AdminRefusal) → IsAsked s o rid found → items ≡ t ∷ []
    → ((all : List Entry) → IfOk found (λ l. l ≡ all) → Answers (with_answer own rid (going_on items s)) all r left)
    → Answers (answered own o (going_on (t ∷ []) s)) (entries_due o s) r left
some_answered own None rid found items t s left r asked same given = absurd asked
some_answered own (Some q) rid found items t s left r asked same given =
    subst (λ (n : ℕ). Answers (with_answer own n (going_on (t ∷ []) s)) (entries_asked q s) r left) asked.0
    (subst (λ (l : List Step). Answers (with_answer own rid (going_on l s)) (entries_asked q s) r left) same (given (entries_asked q s) asked.1))

-- where the face is asked nothing, the step stands alone
pub none_answered : (own : FaceId) (o : Option Request) (items : List Step) (t : Step) (s : State) → o ≡ None → items ≡ t ∷ [] → Answers (answered own o (going_on (t ∷ []) s)) (entries_due o s) (Ok items) s
none_answered own None items t s none same = record { steps = same; state = refl }
none_answered own (Some q) items t s none same = absurd (let gap : Some q ≡ None = none in cc)

-- an equal step, and an equal state behind it
moved : (own : FaceId) (t u : Step) (z y left : State) (r : Result (List Step) AdminRefusal) → t ≡ u → z ≡ y → AnswersStep own t z r left → AnswersStep own u y r left
moved own t u z y left r e f k =
    subst (λ (x : State). AnswersStep own u x r left) f (subst (λ (x : Step). AnswersStep own x z r left) e k)

-- a call that was made, and answered
called_answers : (own : FaceId) (s left : State) (c : Call) (r : Result (List Step) AdminRefusal) → Answers (called own c s) (due own c s) r left → Calls (own, s) (own, left) c r
called_answers own s left c (Ok steps) k = (refl, k)
called_answers own s left c (Err refusal.NoLocal) k = k
called_answers own s left c (Err refusal.NoFreeId) k = k
called_answers own s left c (Err refusal.OutOfMemory) k = absurd k
called_answers own s left c (Err (refusal.Cut steps)) k = (refl, k)

-- the step of a call is answered as the call is
step_answers : (own : FaceId) (s left : State) (c : Call) (r : Result (List Step) AdminRefusal) → AnswersStep own (step s c) (after s c) r left → Answers (called own c s) (due own c s) r left
unfolding asked_own first_made
step_answers own s left c r k = k

pub calls_answered : (own : FaceId) (s z left : State) (c : Call) (t : Step) (r : Result (List Step) AdminRefusal) → t ≡ step s c → z ≡ after s c → AnswersStep own t z r left → Calls (own, s) (own, left) c r
calls_answered own s z left c t r e f k = called_answers own s left c r (step_answers own s left c r (moved own t (step s c) z (after s c) left r e f k))
