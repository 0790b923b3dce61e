-- The laws of what a call leaves of faces and tells them, and of when it lacks ids: no receiver is named.
use Rattle.std.specs.Prelude.{◌≡◌, ℕ, ◌+◌, ◌^◌, ◌<◌, nat_lt, ◌==◌, ◌&&◌, Bool, true, false, not, List, [], filter, length, map, Some, None, if◌then◌else◌}
use Rattle.std.specs.List.{AllByRecursion, flat_map, list_any}
use Rattle.std.specs.List.Sorted.{IsStrictlySortedBy}
use Rattle.std.specs.Option.{is_some, option_and_then, option_map, option_map_or}
use Rattle.std.specs.Ordering.{nat_cmp}
use Rattle.std.specs.Str.{bytes_eq}
use Rattle.zq_index.specs.Texts.{at_text}
use Rattle.std.specs.Map.{keys_of}
use Rattle.zq_strategy.specs.declared.network.Telling.{Telling}
use Rattle.zq_told.specs.declared.types.FaceUpdate.{FaceUpdate}
use Rattle.zq_told.specs.declared.types.Reason.{Reason}
use Rattle.zq_told.specs.declared.types.Reason.TheVariants.{Answer, End}
use Rattle.zq_told.specs.ToldSets.{ToldSet, ToldSets, Told, at_face, closed, last_at, opened}
use Rattle.zq_told.specs.Telling.{KeyDue, change, lacks_ids, renewed, tell_due, tell_faces}
use Rattle.zq_told.specs.Receiver.{Tied, memory_of}
use Rattle.zq_told.specs.Laws.{InOrder, aim_on, ear_after, is_to, keys_for, takes_id, told_in, told_info}

-- after a call a face was told on each key what the call aims at; of what was told of other keys nothing changes
abbrev pub ToldAimed : Type 0
ToldAimed =
    (way : Reason) (n : ℕ) (ear : ToldSet) (keys : List KeyDue) → InOrder ear.told → InOrder keys
    → (key : List ℕ) → told_info (ear_after way n ear keys) key ≡ aim_on way keys (told_info ear key) key

-- over a whole call: each face that is there was told on each key what the call aims at, if it looks at the key for the face, and else what it was told before
abbrev pub TellsAimed : Type 0
TellsAimed =
    (way : Reason) (ears : ToldSets) (dues : List FaceUpdate) → IsStrictlySortedBy nat_cmp (map (λ (d : FaceUpdate). d.face.0) dues) → AllByRecursion (λ (d : FaceUpdate). InOrder d.keys) dues
    → (n : ℕ) (ear : ToldSet) → at_face n ears ≡ Some ear → InOrder ear.told
    → (key : List ℕ) → option_map (λ (e : ToldSet). told_info e key) (at_face n (tell_due way ears dues)) ≡ Some (option_map_or (λ keys. aim_on way keys (told_info ear key) key) (keys_for n dues) (told_info ear key))

-- what a face was told stays in order of its keys
abbrev pub StaysInOrder : Type 0
StaysInOrder = (way : Reason) (n : ℕ) (ear : ToldSet) (keys : List KeyDue) → InOrder ear.told → InOrder (ear_after way n ear keys).told

-- what is told of a key where an interest ended: what is due, under the id that it has, if it was told with other information
abbrev pub changed_on : ℕ → Told → KeyDue → List Telling
changed_on n told k = change n k.0 (at_text k.0 told) (option_and_then (renewed (at_text k.0 told)) k.1)

-- where an interest ended, that is told of its keys, and nothing else: no new key, and no withdrawal
abbrev pub EndsChanging : Type 0
EndsChanging = (n : ℕ) (ear : ToldSet) (keys : List KeyDue) → told_in End n ear keys ≡ flat_map (changed_on n ear.told) keys

-- a key with the information that is told of it
abbrev pub news_of : Telling → KeyDue
news_of t = (t.key, t.info)

-- an interest is answered with all that is due, and with nothing else
abbrev pub AnswersAll : Type 0
AnswersAll = (n : ℕ) (ear : ToldSet) (keys : List KeyDue) → map news_of (told_in Answer n ear keys) ≡ filter (λ (k : KeyDue). is_some k.1) keys

-- keys on which nothing is due are told nothing in answer: an interest may look at more keys than it has to
abbrev pub AnswersDue : Type 0
AnswersDue = (n : ℕ) (ear : ToldSet) (keys : List KeyDue) → told_in Answer n ear keys ≡ told_in Answer n ear (filter (λ (k : KeyDue). is_some k.1) keys)

-- the id is above those of 32 bits
abbrev pub is_too_great : ℕ → Bool
is_too_great id = not (nat_lt id (2 ^ 32))

-- the face is there, and as many keys are newly due to it as lead above the ids of 32 bits
abbrev pub lacks_there : Reason → ToldSets → FaceUpdate → Bool
lacks_there way ears d = option_map_or (λ (e : ToldSet). is_too_great (e.last + length (filter (takes_id way e.told) d.keys))) (at_face d.face.0 ears) false

-- ids lack exactly where they lack to some face that is there
abbrev pub LacksExactly : Type 0
LacksExactly = (way : Reason) (ears : ToldSets) (dues : List FaceUpdate) → lacks_ids way ears dues ≡ list_any (lacks_there way ears) dues

-- the id that each face was given last is one of 32 bits
abbrev pub HaveIds : ToldSets → Type 0
HaveIds ears = (n : ℕ) (e : ToldSet) → at_face n ears ≡ Some e → e.last < 2 ^ 32

-- some key is newly due to the face
abbrev pub takes_ids : Reason → ToldSets → FaceUpdate → Bool
takes_ids way ears d = option_map_or (λ (e : ToldSet). list_any (takes_id way e.told) d.keys) (at_face d.face.0 ears) false

-- where no key is newly due to a face, no ids lack, and each face keeps the id that it was given last
abbrev pub LessDue : Type 0
LessDue =
    (way : Reason) (ears : ToldSets) (dues : List FaceUpdate) → list_any (takes_ids way ears) dues ≡ false
    → (HaveIds ears → lacks_ids way ears dues ≡ false) × ((n : ℕ) → last_at n (tell_due way ears dues) ≡ last_at n ears)

-- the end of an interest lacks no ids
abbrev pub EndsNeedNone : Type 0
EndsNeedNone = (ears : ToldSets) (dues : List FaceUpdate) → HaveIds ears → lacks_ids End ears dues ≡ false

-- the call looks at the key for the face
abbrev pub is_looked_at : List FaceUpdate → ℕ → List ℕ → Bool
is_looked_at dues n key = list_any (λ (d : FaceUpdate). (n == d.face.0) && list_any (λ (k : KeyDue). bytes_eq key k.0) d.keys) dues

-- the telling is to a face that is there, of a key that the call looks at for it, and of no node
pub record IsMeant (ears : ToldSets) (dues : List FaceUpdate) (t : Telling) : Type 0 where
  pub node : t.node ≡ 0
  pub there : is_some (at_face t.face.0 ears) ≡ true
  pub asked : is_looked_at dues t.face.0 t.key ≡ true

-- each telling is such a one
abbrev pub TellsMeant : Type 0
TellsMeant = (way : Reason) (ears : ToldSets) (dues : List FaceUpdate) → AllByRecursion (IsMeant ears dues) (tell_faces way ears dues).tellings

-- a face that is not there is told nothing, nor is one for which the call looks at no key
pub record TellsNoOther : Type 0 where
  pub absent : (way : Reason) (ears : ToldSets) (dues : List FaceUpdate) (n : ℕ) → at_face n ears ≡ None → filter (is_to n) (tell_faces way ears dues).tellings ≡ []
  pub unasked : (way : Reason) (ears : ToldSets) (dues : List FaceUpdate) (n : ℕ) → keys_for n dues ≡ None → filter (is_to n) (tell_faces way ears dues).tellings ≡ []

-- faces stand in order, each once, and so does what each was told; the last ids are of 32 bits
pub record AreSound (ears : ToldSets) : Type 0 where
  pub faces : IsStrictlySortedBy nat_cmp (keys_of ears)
  pub told : (n : ℕ) (e : ToldSet) → at_face n ears ≡ Some e → InOrder e.told
  pub ids : HaveIds ears

-- so they are from the first on: where there are no faces, where one comes or goes, and after each call that lacks no ids
pub record StaySound : Type 0 where
  pub first : AreSound []
  pub opens : (n last : ℕ) (ears : ToldSets) → last < 2 ^ 32 → AreSound ears → AreSound (opened n last ears)
  pub closes : (n : ℕ) (ears : ToldSets) → AreSound ears → AreSound (closed n ears)
  pub tells : (way : Reason) (ears : ToldSets) (dues : List FaceUpdate) → lacks_ids way ears dues ≡ false → AreSound ears → AreSound (tell_due way ears dues)

-- a call leaves the same faces there
abbrev pub KeepsFaces : Type 0
KeepsFaces = (way : Reason) (ears : ToldSets) (dues : List FaceUpdate) → keys_of (tell_due way ears dues) ≡ keys_of ears

-- a face that was told nothing
abbrev pub fresh_ear : ℕ → ToldSet
fresh_ear last = record { last = last; told = [] }

-- a face comes and was told nothing, so that a receiver that keeps nothing keeps what it was told; all others stay
pub record Opens : Type 0 where
  pub found : (n m last : ℕ) (ears : ToldSets) → at_face m (opened n last ears) ≡ (if n == m then Some (fresh_ear last) else at_face m ears)
  pub tied : (last : ℕ) → Tied (memory_of (fresh_ear last)) []

-- a face goes, and all others stay; where it was not there before it came, all is as it was
pub record Closes : Type 0 where
  pub found : (n m : ℕ) (ears : ToldSets) → IsStrictlySortedBy nat_cmp (keys_of ears) → at_face m (closed n ears) ≡ (if n == m then None else at_face m ears)
  pub back : (n last : ℕ) (ears : ToldSets) → is_some (at_face n ears) ≡ false → closed n (opened n last ears) ≡ ears
