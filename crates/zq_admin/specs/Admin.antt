-- What a call of the administration view gives.
use Rattle.std.specs.Prelude.{◌≡◌, ◌≢◌, ◌-◌, ◌^◌, ℕ, true, false, List, [], ◌∷◌, ◌++◌, Option, Some, None, Result, Ok, Err, IfOk}
use Rattle.std.specs.List.{AllByRecursion}
use Rattle.zq_message.specs.declared.memory.OutOfMemory.{OutOfMemory}
use Rattle.zq_message.specs.declared.message.FaceId.{FaceId}
use Rattle.zq_message.specs.declared.message.Request.{Request}
use Rattle.zq_machine.specs.declared.call.Call.{Call}
use Rattle.zq_machine.specs.declared.call.Outcome.{Outcome}
use Rattle.zq_machine.specs.declared.call.Outcome.TheVariants as outcome
use Rattle.zq_machine.specs.declared.call.Refusal.TheVariants as why
use Rattle.zq_machine.specs.declared.call.Step.{Step}
use Rattle.zq_machine.specs.Configs.{Settings, has_local}
use Rattle.zq_machine.specs.Machine.{after, state_after, step}
use Rattle.zq_machine.specs.State.{State, opening_state}
use Rattle.zq_admin.specs.declared.refusal.AdminRefusal.{AdminRefusal}
use Rattle.zq_admin.specs.declared.refusal.AdminRefusal.TheVariants as refusal
use Rattle.zq_admin.specs.Entries.{Entry}
use Rattle.zq_admin.specs.Answering.{Made, answered, called, due, entries_asked, entries_due, first_asked, going_on, own_declaration, own_opening}

-- the own face, and the gateway
abbrev pub Seat : Type 0
Seat = FaceId × State

-- these steps were made, and this state is left
pub record AreMade (m : Made) (given : List Step) (left : State) : Type 0 where
  pub steps : given ≡ m.steps
  pub state : left ≡ m.state

-- a front of the entries alone was answered
pub record AreCut (answer : List Entry → Made) (all : List Entry) (given : List Step) (left : State) : Type 0 where
  pub front : List Entry
  pub rest : List Entry
  pub split : all ≡ front ++ rest
  pub made : AreMade (answer front) given left

-- all entries were answered, or a front of them where memory was lacking
abbrev pub Answers : (List Entry → Made) → List Entry → Result (List Step) AdminRefusal → State → Type 0
Answers answer all (Ok steps) left = AreMade (answer all) steps left
Answers answer all (Err refusal.NoLocal) left = ⊥
Answers answer all (Err refusal.NoFreeId) left = ⊥
Answers answer all (Err refusal.OutOfMemory) left = ⊥
Answers answer all (Err (refusal.Cut steps)) left = AreCut answer all steps left

-- a step was made, and what it asks the own face was answered
abbrev pub AnswersStep : FaceId → Step → State → Result (List Step) AdminRefusal → State → Type 0
AnswersStep own t s r left = Answers (answered own (first_asked own t.handed) (going_on (t ∷ []) s)) (entries_due (first_asked own t.handed) s) r left

-- the call and what the own face answers; where memory was lacking for the call, nothing changed, and for the answer, a front of its entries was answered, with the final
abbrev pub Calls : Seat → Seat → Call → Result (List Step) AdminRefusal → Type 0
Calls old new c (Ok steps) = (new.0 ≡ old.0) × AreMade (called old.0 c old.1 (due old.0 c old.1)) steps new.1
Calls old new c (Err refusal.NoLocal) = ⊥
Calls old new c (Err refusal.NoFreeId) = ⊥
Calls old new c (Err refusal.OutOfMemory) = new ≡ old
Calls old new c (Err (refusal.Cut steps)) = (new.0 ≡ old.0) × AreCut (called old.0 c old.1) (due old.0 c old.1) steps new.1

-- there is this request, and these are the entries that it asks for, if they were found
abbrev pub IsAsked : State → Option Request → ℕ → Result (List Entry) OutOfMemory → Type 0
IsAsked s None rid found = ⊥
IsAsked s (Some r) rid found = (rid ≡ r.id) × IfOk found (λ l. l ≡ entries_asked r s)

-- the own face is opened under its number, and declares its queryable: neither call is refused
pub record IsJoined (own : FaceId) (config : Settings) : Type 0 where
  pub opened : (step (opening_state config) (own_opening config)).outcome ≡ outcome.Opened own
  pub declared : (step (after (opening_state config) (own_opening config)) (own_declaration own config)).outcome ≡ outcome.Done

-- where no view is made: without Local, or where no number is left for its face
abbrev pub RefusesNew : {X : Type 0} → Settings → Result X AdminRefusal → Type 0
RefusesNew config (Ok x) = (has_local config.entries ≡ true) × (config.start.faces ≢ 2 ^ 32 - 1)
RefusesNew config (Err refusal.NoLocal) = has_local config.entries ≡ false
RefusesNew config (Err refusal.NoFreeId) = (has_local config.entries ≡ true) × (config.start.faces ≡ 2 ^ 32 - 1)
RefusesNew config (Err refusal.OutOfMemory) = (has_local config.entries ≡ true) × (config.start.faces ≢ 2 ^ 32 - 1)
RefusesNew config (Err (refusal.Cut steps)) = ⊥

-- the outcome is no refusal, or that of a reply for which no number is left
abbrev pub LacksAtMost : Outcome → Type 0
LacksAtMost (outcome.Opened face) = Unit {0}
LacksAtMost (outcome.Asked number) = Unit {0}
LacksAtMost (outcome.Replied reply) = Unit {0}
LacksAtMost outcome.Done = Unit {0}
LacksAtMost (outcome.Refused r) = r ≡ why.NoFreeId

-- so are the outcomes of all steps behind the first
abbrev pub LackAtMost : List Step → Type 0
LackAtMost [] = Unit {0}
LackAtMost (t ∷ ts) = AllByRecursion (λ (u : Step). LacksAtMost u.outcome) ts

-- whatever calls were made once the own face was opened: of what it answers to a call, by all entries that are asked for or a front of them, nothing is refused but a reply for which no number is left
pub record RefusesFull (own : FaceId) (s : State) (c : Call) : Type 0 where
  pub alone : (config : Settings) (calls : List Call) (front rest : List Entry) → IsJoined own config → s ≡ state_after (opening_state config) (own_opening config ∷ calls)
      → due own c s ≡ front ++ rest → LackAtMost (called own c s front).steps
