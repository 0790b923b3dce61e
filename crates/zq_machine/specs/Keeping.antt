-- What a receiver keeps of the declarations that a face is handed over a run, read by their ids alone: outside regions of routers it is, after every call, what is due to the face; each call tells the face exactly the difference, an interest is answered by all that is due, and its end tells at most of its own key.
use Rattle.std.specs.Prelude.{◌≡◌, ℕ, ◌==◌, ◌&&◌, nat_lt, Bool, true, false, List, [], ◌∷◌, ◌++◌, filter, fold, map, Option, Some, None, if◌then◌else◌}
use Rattle.std.specs.Option.{is_some, option_to_list}
use Rattle.zq_message.specs.declared.message.FaceId.{FaceId}
use Rattle.zq_message.specs.declared.message.QueryableInfoType.{QueryableInfoType}
use Rattle.zq_message.specs.declared.message.WireExpr.{WireExpr}
use Rattle.zq_interests.specs.declared.types.InterestEntry.{InterestEntry}
use Rattle.zq_interests.specs.Interests.{interest_at}
use Rattle.zq_told.specs.declared.types.Reason.TheVariants.{Answer, End, Update}
use Rattle.zq_told.specs.ToldSets.{ToldSet, at_face}
use Rattle.zq_told.specs.Laws.{InOrder, told_in}
use Rattle.zq_told.specs.Receiver.{Heard, Tied, heard_entry, heard_on, memory_of}
use Rattle.zq_machine.specs.declared.call.Call.{Call}
use Rattle.zq_machine.specs.declared.call.Call.TheVariants as call
use Rattle.zq_machine.specs.declared.call.Step.{Step}
use Rattle.zq_machine.specs.Configs.{Settings}
use Rattle.zq_machine.specs.Deciding.{is_accepted}
use Rattle.zq_machine.specs.Due.{due}
use Rattle.zq_machine.specs.Hearing.{hear}
use Rattle.zq_machine.specs.Machine.{after, follow, state_after, step}
use Rattle.zq_machine.specs.Messages.{Telling, TellingBody, all_told, answered_by, from_hat, key_ended, key_told}
use Rattle.zq_machine.specs.Neighbours.{answer_dues, due_on}
use Rattle.zq_machine.specs.Selecting.{asked_by}
use Rattle.zq_machine.specs.Receivers.{HaveChanges}
use Rattle.zq_machine.specs.State.{Core, State, is_open, opening_state}
use Rattle.zq_machine.specs.TextCalls.{by_router, read, said_if}

-- ---- what a receiver keeps

-- a key that is told stands under its id from then on, with its information; nothing stands under an id that ended
abbrev pub with_told : Heard → TellingBody → Heard
with_told heard (key_told id text info) = heard_entry heard id text (Some info)
with_told heard (key_ended id text) = heard_entry heard id [] None
with_told heard all_told = heard

-- the greater of the two
abbrev pub greater : ℕ → ℕ → ℕ
greater last id = if nat_lt last id then id else last

-- the greatest id that was told of
abbrev pub greatest_with : ℕ → TellingBody → ℕ
greatest_with last (key_told id text info) = greater last id
greatest_with last (key_ended id text) = greater last id
greatest_with last all_told = last

-- the face is told it
abbrev pub is_told : ℕ → Telling → Bool
is_told face t = face == t.to.0

-- what is told to the face changes what is kept there
abbrev pub if_told : {K : Type 0} → (K → TellingBody → K) → ℕ → K → Telling → K
if_told f face kept t = if is_told face t then f kept t.body else kept

-- what the messages say to their receivers that a call hands
abbrev pub told_by : State → Call → List Telling
told_by s c = hear (step s c).handed (follow s (read s c)).names

-- the entry is of a key that is due to the face
abbrev pub is_due_at : ℕ → Core → ℕ × (List ℕ × QueryableInfoType) → Bool
is_due_at face c e = is_some (due c c.interests face e.1.0)

-- where an interest of the face came or ended, by this answer and with this left, its receiver forgets the keys that are not due any more
abbrev pub forget_undue : ℕ → Step → Core → Call → Heard → Heard
forget_undue face t left (call.Interest f id keys aggregate wire) heard = if (f.0 == face) && is_accepted t.outcome then filter (is_due_at face left) heard else heard
forget_undue face t left (call.InterestFinal f id) heard = if (f.0 == face) && is_accepted t.outcome then filter (is_due_at face left) heard else heard
forget_undue face t left c heard = heard

-- what the face's receiver keeps once a call is made
abbrev pub heard_after : ℕ → State → Call → Heard → Heard
heard_after face s c heard = forget_undue face (step s c) (after s c).core c (fold (if_told with_told face) heard (told_by s c))

-- the greatest id that the face was told of once a call is made
abbrev pub last_after : ℕ → State → Call → ℕ → ℕ
last_after face s c last = fold (if_told greatest_with face) last (told_by s c)

-- what is kept once calls are made, one after another
abbrev pub received_in : {K : Type 0} → (State → Call → K → K) → State → List Call → K → K
received_in f s [] kept = kept
received_in f s (c ∷ cs) kept = received_in f (after s c) cs (f s c kept)

-- what a run leaves with the face's receiver
abbrev pub heard_in : ℕ → Settings → List Call → Heard
heard_in face config calls = received_in (heard_after face) (opening_state config) calls []

-- the greatest id that the face was told of in it, or the one before the first
abbrev pub last_in : ℕ → Settings → List Call → ℕ
last_in face config calls = received_in (last_after face) (opening_state config) calls config.start.told

-- ---- what is promised of it

-- what is kept of a face, by key and in order, is what its receiver keeps by ids, with the greatest id
pub record IsKept (ear : ToldSet) (heard : Heard) (last : ℕ) : Type 0 where
  pub sorted : InOrder ear.told
  pub tied : Tied (memory_of ear) heard
  pub greatest : ear.last ≡ last

-- the face is open, and in no region of routers
pub record IsNear (face : ℕ) (c : Core) : Type 0 where
  pub opened : is_open face c ≡ true
  pub near : by_router (record { 0 = face }) c ≡ false

-- the receiver of a face keeps on each key one information, the one that is due, or none where nothing is; and the gateway keeps of the face what its receiver does
pub record KeepsDue (c : Core) (face : ℕ) (heard : Heard) (last : ℕ) : Type 0 where
  pub due : (key : List ℕ) → heard_on key heard ≡ option_to_list (due c c.interests face key)
  pub ear : ToldSet
  pub there : at_face face c.ears ≡ Some ear
  pub is : IsKept ear heard last

-- so it is at every point of a run, at each face that is near
abbrev pub KeepPromise : Settings → List Call → Type 0
KeepPromise config calls =
    (before rest : List Call) → calls ≡ before ++ rest → (face : ℕ) → IsNear face (state_after (opening_state config) before).core
    → KeepsDue (state_after (opening_state config) before).core face (heard_in face config before) (last_in face config before)

-- the face is told the difference between what is kept of it and what is due: over any keys in order that have all on which there is one, as some do, each that is due with another information than was told is told under the id that it has, or under the next; and of each that is not due any more that its id ended
pub record TellsChanges (c : Core) (face : ℕ) (heard : Heard) (last : ℕ) (told : List Telling) : Type 0 where
  pub ear : ToldSet
  pub is : IsKept ear heard last
  pub some : (keys : List (List ℕ)) × HaveChanges c c.interests face ear keys
  pub exactly : (keys : List (List ℕ)) → HaveChanges c c.interests face ear keys → filter (is_told face) told ≡ map from_hat (told_in Update face ear (map (due_on c c.interests face) keys))

-- the call is an interest, or the end of one
abbrev pub is_asking : Call → Bool
is_asking (call.Interest face id keys aggregate wire) = true
is_asking (call.InterestFinal face id) = true
is_asking c = false

-- so does each other accepted call of a run, at each face that is near after it
abbrev pub ChangePromise : Settings → List Call → Type 0
ChangePromise config calls =
    (before rest : List Call) (c : Call) → calls ≡ before ++ c ∷ rest → is_asking c ≡ false → is_accepted (step (state_after (opening_state config) before) c).outcome ≡ true
    → (face : ℕ) → IsNear face (after (state_after (opening_state config) before) c).core
    → TellsChanges (after (state_after (opening_state config) before) c).core face (heard_in face config before) (last_in face config before) (told_by (state_after (opening_state config) before) c)

-- the asker is told all that is due on the keys for which its interest asks, in order, each under the id that it has, or under the next, and then that this was all
pub record TellsAnswer (c : Core) (face : FaceId) (id : ℕ) (asked : InterestEntry) (heard : Heard) (last : ℕ) (told : List Telling) : Type 0 where
  pub ear : ToldSet
  pub is : IsKept ear heard last
  pub exactly : told ≡ answered_by face id (map from_hat (told_in Answer face.0 ear (answer_dues c c.interests face.0 asked)))

-- so does each accepted interest of a run whose face is near, and tells no other face anything
abbrev pub AnswersInterests : Settings → List Call → Type 0
AnswersInterests config calls =
    (before rest : List Call) (face : FaceId) (id : ℕ) (keys aggregate : Bool) (wire : Option WireExpr)
    → let s : State = state_after (opening_state config) before in let c : Call = call.Interest face id keys aggregate wire in calls ≡ before ++ c ∷ rest → is_accepted (step s c).outcome ≡ true → IsNear face.0 (after s c).core
    → TellsAnswer (after s c).core face id (asked_by (record { keys = keys; aggregate = aggregate }) (said_if face wire s)) (heard_in face.0 config before) (last_in face.0 config before) (told_by s c)

-- the asker is told at most what is due on the own key of its interest that ended, under the id that the key has, where it stays due with other information than was told
pub record TellsEnd (c : Core) (face : FaceId) (asked : InterestEntry) (heard : Heard) (last : ℕ) (told : List Telling) : Type 0 where
  pub ear : ToldSet
  pub is : IsKept ear heard last
  pub exactly : told ≡ map from_hat (told_in End face.0 ear (map (due_on c c.interests face.0) (option_to_list asked.key)))

-- so does each accepted end of an interest in a run whose face is near, and tells no other face anything
abbrev pub EndsInterests : Settings → List Call → Type 0
EndsInterests config calls =
    (before rest : List Call) (face : FaceId) (id : ℕ) (asked : InterestEntry)
    → let s : State = state_after (opening_state config) before in let c : Call = call.InterestFinal face id in calls ≡ before ++ c ∷ rest → is_accepted (step s c).outcome ≡ true → IsNear face.0 (after s c).core
    → interest_at face.0 id s.core.interests ≡ Some asked → TellsEnd (after s c).core face asked (heard_in face.0 config before) (last_in face.0 config before) (told_by s c)
