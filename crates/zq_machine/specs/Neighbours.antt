-- What a call tells faces outside regions of routers, and what is kept of it: each face is told the difference between what it was told and what is due to it.
use Rattle.std.specs.Prelude.{ℕ, Bool, List, [], ◌∷◌, ◌++◌, filter, fold, map}
use Rattle.std.specs.BTreeSet.{insert_key}
use Rattle.std.specs.List.{flat_map}
use Rattle.std.specs.Option.{option_map_or}
use Rattle.zq_index.specs.Texts.{text_cmp}
use Rattle.zq_strategy.specs.declared.network.Telling.{Telling as TreeTelling}
use Rattle.zq_strategy.specs.Tellings.{in_order}
use Rattle.zq_interests.specs.declared.types.InterestEntry.{InterestEntry}
use Rattle.zq_interests.specs.Interests.{Interests, interest_at, meets}
use Rattle.zq_told.specs.declared.types.FaceUpdate.{FaceUpdate}
use Rattle.zq_told.specs.declared.types.Reason.TheVariants.{Update, Answer, End}
use Rattle.zq_told.specs.ToldSets.{ToldSets, closed, opened, told_keys}
use Rattle.zq_told.specs.Telling.{KeyDue, lacks_ids, tell_due, tell_faces}
use Rattle.zq_machine.specs.Due.{answer_keys, asked_keys, due, due_touched, listens, widened}
use Rattle.zq_machine.specs.Messages.{Telling, answered_by, from_hat}
use Rattle.zq_machine.specs.Selecting.{asked_by}
use Rattle.zq_machine.specs.State.{Core}
use Rattle.zq_machine.specs.TextCalls.{TextCall, closing, hearing, opening, unhearing}
use Rattle.zq_machine.specs.Trees.{all_own_told, touched, tree_told}

-- ---- what is looked at

-- a key with what is due to the face
abbrev pub due_on : Core → Interests → ℕ → List ℕ → KeyDue
due_on c ints face key = (key, due c ints face key)

-- those of the keys in which the face is interested, with what is due
abbrev pub dues_on : Core → Interests → List (List ℕ) → ℕ → List KeyDue
dues_on c ints keys face = map (due_on c ints face) (filter (λ key. listens c ints face key) keys)

-- a face with its keys, if it has any
abbrev pub with_dues : ℕ → List KeyDue → List FaceUpdate
with_dues face [] = []
with_dues face (k ∷ ks) = record { face = record { 0 = face }; keys = k ∷ ks } ∷ []

-- at each open face those of its keys in which it is interested
abbrev pub looked_by : Core → Interests → (ℕ → List (List ℕ)) → List FaceUpdate
looked_by c ints keys = flat_map (λ o. with_dues o.0 (dues_on c ints (keys o.0) o.0)) c.faces

-- the same where all faces have the same keys, if there are any, and each besides those of its aggregating interests that one of them meets
abbrev pub looked_over : Core → Interests → List (List ℕ) → List FaceUpdate
looked_over c ints [] = []
looked_over c ints (k ∷ ks) = looked_by c ints (λ face. widened face ints (k ∷ ks))

-- what a call that is no interest looks at: at each face that is open after it, of the keys that it touches there those in which the face is interested
abbrev pub looked_at : (before after : Core) → Interests → TextCall → List FaceUpdate
looked_at before after ints (opening o) = looked_by after ints (due_touched before ints (opening o))
looked_at before after ints t = looked_over after ints (fold (insert_key text_cmp) [] (touched before t))

-- the keys that an interest looks at, with what is due to the asker
abbrev pub asked_dues : Core → Interests → (asker : ℕ) → InterestEntry → List KeyDue
asked_dues c ints asker asked = map (due_on c ints asker) (asked_keys c ints asker asked)

-- the keys that answer it, with what is due
abbrev pub answer_dues : Core → Interests → (asker : ℕ) → InterestEntry → List KeyDue
answer_dues c ints asker asked = map (due_on c ints asker) (answer_keys c ints asker asked)

-- what an interest looks at: those, at the asker
abbrev pub asked_at : Core → Interests → (asker : ℕ) → InterestEntry → List FaceUpdate
asked_at c ints asker asked = with_dues asker (asked_dues c ints asker asked)

-- the keys that the asker was told and that meet what was asked for, with what is due to it
abbrev pub ended_dues : Core → Interests → ToldSets → (asker : ℕ) → InterestEntry → List KeyDue
ended_dues c ints ears asker asked = map (due_on c ints asker) (filter (meets asked.key) (told_keys asker ears))

-- what the end of an interest looks at: those, at the asker
abbrev pub ended_at : Core → Interests → ToldSets → (asker : ℕ) → InterestEntry → List FaceUpdate
ended_at c ints ears asker asked = with_dues asker (ended_dues c ints ears asker asked)

-- ---- what is told, and what is kept of it

-- a face that a call opens was told nothing
abbrev pub with_new : Core → TextCall → ToldSets → ToldSets
with_new before (opening o) ears = opened before.next_face before.config.start.told ears
with_new before t ears = ears

-- of a face that a call closes nothing is kept
abbrev pub without_closed : TextCall → ToldSets → ToldSets
without_closed (closing face) ears = closed face.0 ears
without_closed t ears = ears

-- what a call that is no interest tells the faces of which something is kept: the difference
abbrev pub kept_told : (before after : Core) → Interests → TextCall → ToldSets → List TreeTelling
kept_told before after ints t kept = (tell_faces Update kept (looked_at before after ints t)).tellings

-- a face needs an id above those of 32 bits for it
abbrev pub kept_lack : (before after : Core) → Interests → TextCall → ToldSets → Bool
kept_lack before after ints t kept = lacks_ids Update kept (looked_at before after ints t)

-- what was told after it
abbrev pub kept_after : (before after : Core) → Interests → TextCall → ToldSets → ToldSets
kept_after before after ints t kept = without_closed t (tell_due Update kept (looked_at before after ints t))

-- what such a call tells them, with a new face among them
abbrev pub neighbours_told : (before after : Core) → Interests → TextCall → ToldSets → List TreeTelling
neighbours_told before after ints t ears = kept_told before after ints t (with_new before t ears)

-- a face needs an id above those of 32 bits for it
abbrev pub neighbours_lack : (before after : Core) → Interests → TextCall → ToldSets → Bool
neighbours_lack before after ints t ears = kept_lack before after ints t (with_new before t ears)

-- what was told after it
abbrev pub ears_after : (before after : Core) → Interests → TextCall → ToldSets → ToldSets
ears_after before after ints t ears = kept_after before after ints t (with_new before t ears)

-- what an interest tells its face: all that is due on what it asks for
abbrev pub answer_told : Core → Interests → ToldSets → (asker : ℕ) → InterestEntry → List TreeTelling
answer_told c ints ears asker asked = (tell_faces Answer ears (asked_at c ints asker asked)).tellings

-- the face needs an id above those of 32 bits for it
abbrev pub answer_lacks : Core → Interests → ToldSets → (asker : ℕ) → InterestEntry → Bool
answer_lacks c ints ears asker asked = lacks_ids Answer ears (asked_at c ints asker asked)

-- what was told after it
abbrev pub ears_asked : Core → Interests → ToldSets → (asker : ℕ) → InterestEntry → ToldSets
ears_asked c ints ears asker asked = tell_due Answer ears (asked_at c ints asker asked)

-- what the end of an interest tells its face: what stays due with other information, under the id that it has
abbrev pub ended_told : Core → Interests → ToldSets → (asker : ℕ) → InterestEntry → List TreeTelling
ended_told c ints ears asker asked = (tell_faces End ears (ended_at c ints ears asker asked)).tellings

-- what was told after it: what is not due any more is forgotten
abbrev pub ears_ended : Core → Interests → ToldSets → (asker : ℕ) → InterestEntry → ToldSets
ears_ended c ints ears asker asked = tell_due End ears (ended_at c ints ears asker asked)

-- ---- by the kind of the call; the interests are those after an interest or the end of one, and else those before the call

-- what a call tells the faces of which something is kept
abbrev pub near_told : (before after : Core) → Interests → TextCall → ToldSets → List TreeTelling
near_told before after ints (hearing face id m s) kept = answer_told after ints kept face.0 (asked_by m s)
near_told before after ints (unhearing face id) kept = option_map_or (ended_told after ints kept face.0) (interest_at face.0 id before.interests) []
near_told before after ints t kept = kept_told before after ints t kept

-- a face needs an id above those of 32 bits for it
abbrev pub near_lack : (before after : Core) → Interests → TextCall → ToldSets → Bool
near_lack before after ints (hearing face id m s) kept = answer_lacks after ints kept face.0 (asked_by m s)
near_lack before after ints t kept = kept_lack before after ints t kept

-- what was told after it
abbrev pub near_after : (before after : Core) → Interests → TextCall → ToldSets → ToldSets
near_after before after ints (hearing face id m s) kept = ears_asked after ints kept face.0 (asked_by m s)
near_after before after ints (unhearing face id) kept = option_map_or (ears_ended after ints kept face.0) (interest_at face.0 id before.interests) kept
near_after before after ints t kept = kept_after before after ints t kept

-- ---- all that a call tells

-- what faces are told by a call that is accepted, by what decides before and after it: along the trees of routers and as neighbours, in order, each once
abbrev pub due_told : (before after : Core) → Interests → TextCall → (kept : ToldSets) → List Telling
due_told before after ints t kept = map from_hat (in_order ((tree_told before after t ++ all_own_told before.hats after.hats (touched before t)) ++ near_told before after ints t kept))

-- what is told as it is told: in answer to an interest with its id, and with the end of what there was to tell
abbrev pub marked : TextCall → List Telling → List Telling
marked (hearing face id m s) ts = answered_by face id ts
marked t ts = ts
