-- The laws of telling: a receiver that reads what it is told by ids alone keeps what is due.
use Rattle.std.specs.Prelude.{◌≡◌, ℕ, ◌+◌, nat_lt, ◌==◌, ◌||◌, ◌&&◌, Bool, true, false, not, List, [], ◌∷◌, fold, filter, length, map, Option, Some, None, is_none, if◌then◌else◌}
use Rattle.std.specs.List.{AllByRecursion, flat_map}
use Rattle.std.specs.List.Sorted.{IsStrictlySortedBy}
use Rattle.std.specs.Option.{is_some, option_map, option_map_or, option_to_list}
use Rattle.std.specs.Ordering.{nat_cmp}
use Rattle.std.specs.Str.{bytes_eq}
use Rattle.std.specs.Map.{keys_of}
use Rattle.zq_message.specs.declared.message.QueryableInfoType.{QueryableInfoType}
use Rattle.zq_index.specs.Texts.{at_text, text_cmp}
use Rattle.zq_strategy.specs.declared.network.Telling.{Telling}
use Rattle.zq_strategy.specs.Tellings.{same_infos, telling_cmp}
use Rattle.zq_told.specs.declared.types.FaceUpdate.{FaceUpdate}
use Rattle.zq_told.specs.declared.types.ToldEntry.{ToldEntry}
use Rattle.zq_told.specs.declared.types.Reason.{Reason}
use Rattle.zq_told.specs.declared.types.Reason.TheVariants.{Update, Answer, End}
use Rattle.zq_told.specs.ToldSets.{ToldSet, ToldSets, Told, at_face}
use Rattle.zq_told.specs.Telling.{KeyDue, put_row, tell_due, tell_faces, tell_keys}
use Rattle.zq_told.specs.Receiver.{Heard, Tied, heard_after, heard_on, memory_of, receive}

-- what a face was told after a call looked at keys
abbrev pub ear_after : Reason → ℕ → ToldSet → List KeyDue → ToldSet
ear_after way n ear keys = record { last = (tell_keys way n ear keys []).last; told = fold put_row ear.told (tell_keys way n ear keys []).rows }

-- what a face is told of the keys
abbrev pub told_in : Reason → ℕ → ToldSet → List KeyDue → List Telling
told_in way n ear keys = (tell_keys way n ear keys []).tellings

-- the keys stand in order of their texts, each once
abbrev pub InOrder : {X : Type 0} → List (List ℕ × X) → Type 0
InOrder es = IsStrictlySortedBy text_cmp (keys_of es)

-- a receiver that keeps what a face was told keeps after a call what the face was told then
abbrev pub KeepsUp : Type 0
KeepsUp =
    (way : Reason) (n : ℕ) (ear : ToldSet) (keys : List KeyDue) (heard : Heard) → InOrder ear.told → InOrder keys → Tied (memory_of ear) heard
    → Tied (memory_of (ear_after way n ear keys)) (heard_after way keys heard (told_in way n ear keys))

-- what a receiver is to keep on a key that the call looks at: nothing where nothing is due; else what is due, where an interest ended if it kept something
abbrev pub aim : Reason → Option QueryableInfoType → Option QueryableInfoType → Option QueryableInfoType
aim way None old = None
aim Update (Some i) old = Some i
aim Answer (Some i) old = Some i
aim End (Some i) old = if is_some old then Some i else None

-- the information that a face was told of the key
abbrev pub told_info : ToldSet → List ℕ → Option QueryableInfoType
told_info ear key = option_map (λ (t : ToldEntry). t.info) (at_text key ear.told)

-- what a receiver is to keep on a key: where the call looks at it what it aims at, and else what it kept
abbrev pub aim_on : Reason → List KeyDue → Option QueryableInfoType → List ℕ → Option QueryableInfoType
aim_on way keys old key = option_map_or (λ d. aim way d old) (at_text key keys) old

-- on each key that the call looks at a receiver keeps exactly what is due, where an interest ended if it kept something there; on any other key it keeps what it kept
abbrev pub HeardIsDue : Type 0
HeardIsDue =
    (way : Reason) (n : ℕ) (ear : ToldSet) (keys : List KeyDue) (heard : Heard) → InOrder ear.told → InOrder keys → Tied (memory_of ear) heard
    → (key : List ℕ) → heard_on key (heard_after way keys heard (told_in way n ear keys)) ≡ option_to_list (aim_on way keys (told_info ear key) key)

-- the entry is on the key
abbrev pub stands_for : List ℕ → Option (List ℕ × QueryableInfoType) → Bool
stands_for key None = false
stands_for key (Some x) = bytes_eq key x.0

abbrev pub is_empty : {X : Type 0} → List X → Bool
is_empty [] = true
is_empty (x ∷ xs) = false

-- a key is told under the id that it has at the receiver, or, where it has none, under the one after the last; an id is withdrawn that the receiver has for the key
abbrev pub is_given : ℕ → Heard → Telling → Bool
is_given last heard t =
    if is_none t.info then stands_for t.key (at_face t.id heard)
    else (stands_for t.key (at_face t.id heard) || ((t.id == last + 1) && is_empty (heard_on t.key heard)))

-- the greatest id that was given
abbrev pub last_given : ℕ → Telling → ℕ
last_given last t = if nat_lt last t.id then t.id else last

-- one telling after another
abbrev pub AreGiven : ℕ → Heard → List Telling → Type 0
AreGiven last heard [] = Unit {0}
AreGiven last heard (t ∷ ts) = (is_given last heard t ≡ true) × AreGiven (last_given last t) (receive heard t) ts

-- ids are given once and rise, and the last one given is kept
abbrev pub IdsAreGiven : Type 0
IdsAreGiven =
    (way : Reason) (n : ℕ) (ear : ToldSet) (keys : List KeyDue) (heard : Heard) → InOrder ear.told → InOrder keys → Tied (memory_of ear) heard
    → AreGiven ear.last heard (told_in way n ear keys) × (fold last_given ear.last (told_in way n ear keys) ≡ (ear_after way n ear keys).last)

-- what the face was told of the key is not what is due
abbrev pub differs : Told → KeyDue → Bool
differs told k = not (same_infos (option_map (λ (t : ToldEntry). t.info) (at_text k.0 told)) k.1)

-- keys on which nothing differs are told nothing: a call that brings news may look at more keys than it has to
abbrev pub TellsDifference : Type 0
TellsDifference =
    (n : ℕ) (ear : ToldSet) (keys : List KeyDue)
    → (told_in Update n ear keys ≡ told_in Update n ear (filter (differs ear.told) keys))
    × ((ear_after Update n ear keys).last ≡ (ear_after Update n ear (filter (differs ear.told) keys)).last)

-- the key is newly due, and is told
abbrev pub takes_id : Reason → Told → KeyDue → Bool
takes_id Update told k = is_none (at_text k.0 told) && is_some k.1
takes_id Answer told k = is_none (at_text k.0 told) && is_some k.1
takes_id End told k = false

-- a face is given as many ids as keys are newly due to it
abbrev pub CountsIds : Type 0
CountsIds = (way : Reason) (n : ℕ) (ear : ToldSet) (keys : List KeyDue) → (ear_after way n ear keys).last ≡ ear.last + length (filter (takes_id way ear.told) keys)

-- the telling is to the face
abbrev pub is_to : ℕ → Telling → Bool
is_to n t = n == t.face.0

-- what the face is told by itself of the keys that a call looks at for it
abbrev pub told_alone : Reason → ToldSets → ℕ → FaceUpdate → List Telling
told_alone way ears n d = if n == d.face.0 then option_map_or (λ (e : ToldSet). told_in way n e d.keys) (at_face n ears) [] else []

-- a face is told what it is told by itself, whatever other faces are told
abbrev pub TellsEach : Type 0
TellsEach = (way : Reason) (ears : ToldSets) (dues : List FaceUpdate) (n : ℕ) → filter (is_to n) (tell_faces way ears dues).tellings ≡ flat_map (told_alone way ears n) dues

-- the keys that a call looks at for the face, if it looks at any
abbrev pub keys_for : ℕ → List FaceUpdate → Option (List KeyDue)
keys_for n dues = at_face n (map (λ (d : FaceUpdate). (d.face.0, d.keys)) dues)

-- where each face has its keys once, in order of the faces, a call leaves of a face what it leaves of it by itself, and of any other what was
abbrev pub LooksUp : Type 0
LooksUp =
    (way : Reason) (ears : ToldSets) (dues : List FaceUpdate) → IsStrictlySortedBy nat_cmp (map (λ (d : FaceUpdate). d.face.0) dues)
    → (n : ℕ) → at_face n (tell_due way ears dues) ≡ option_map_or (λ keys. option_map (λ (e : ToldSet). ear_after way n e keys) (at_face n ears)) (keys_for n dues) (at_face n ears)

-- where each face has its keys once, in order of their texts, and the faces stand in order, so do the tellings: by face and key
abbrev pub TellsInOrder : Type 0
TellsInOrder =
    (way : Reason) (ears : ToldSets) (dues : List FaceUpdate) → IsStrictlySortedBy nat_cmp (map (λ (d : FaceUpdate). d.face.0) dues) → AllByRecursion (λ (d : FaceUpdate). InOrder d.keys) dues
    → IsStrictlySortedBy telling_cmp (tell_faces way ears dues).tellings

-- over a whole call: a receiver that keeps what its face was told, and reads by ids alone what the call tells that face, keeps afterwards what the face was told then
abbrev pub CallKeepsUp : Type 0
CallKeepsUp =
    (way : Reason) (ears : ToldSets) (dues : List FaceUpdate) → IsStrictlySortedBy nat_cmp (map (λ (d : FaceUpdate). d.face.0) dues)
    → (n : ℕ) (ear : ToldSet) (keys : List KeyDue) → at_face n ears ≡ Some ear → keys_for n dues ≡ Some keys → InOrder ear.told → InOrder keys
    → (heard : Heard) → Tied (memory_of ear) heard
    → Tied (memory_of (ear_after way n ear keys)) (heard_after way keys heard (filter (is_to n) (tell_faces way ears dues).tellings))
    × (at_face n (tell_due way ears dues) ≡ Some (ear_after way n ear keys))
