-- What a call tells faces of the keys that it looks at, and what it leaves of them.
use Rattle.std.specs.Prelude.{ℕ, ◌+◌, ◌^◌, nat_lt, Bool, not, List, [], ◌∷◌, ◌++◌, fold, Option, Some, None, if◌then◌else◌}
use Rattle.std.specs.List.{list_any}
use Rattle.std.specs.Option.{option_map_or}
use Rattle.std.specs.Ordering.{nat_cmp}
use Rattle.std.specs.Map.{remove_entry, set_value}
use Rattle.std.specs.BTreeMap.{insert_entry, is_at}
use Rattle.zq_message.specs.declared.message.QueryableInfoType.{QueryableInfoType}
use Rattle.zq_index.specs.Infos.{same_info}
use Rattle.zq_index.specs.Texts.{at_text, text_cmp}
use Rattle.zq_strategy.specs.declared.network.Telling.{Telling}
use Rattle.zq_told.specs.declared.types.ToldEntry.{ToldEntry}
use Rattle.zq_told.specs.declared.types.Reason.{Reason}
use Rattle.zq_told.specs.declared.types.Reason.TheVariants.{Update, Answer, End}
use Rattle.zq_told.specs.declared.plan.Account.{Account}
use Rattle.zq_told.specs.declared.types.FaceUpdate.{FaceUpdate}
use Rattle.zq_told.specs.declared.types.FacePlan.{FacePlan}
use Rattle.zq_told.specs.declared.types.Planned.{Planned}
use Rattle.zq_told.specs.ToldSets.{ToldSet, ToldSets, Told, at_face}

-- a key with what is due there
abbrev pub KeyDue : Type 0
KeyDue = List ℕ × Option QueryableInfoType

-- a key with what a face was told of it
abbrev pub Row : Type 0
Row = List ℕ × Option ToldEntry

-- a key keeps its id as long as it is told; another gets the next
abbrev pub id_for : ℕ → Option ToldEntry → ℕ
id_for last None = last + 1
id_for last (Some t) = t.id

-- what was told stands under its id with other information; what was not told is not told
abbrev pub renewed : Option ToldEntry → QueryableInfoType → Option ToldEntry
renewed None i = None
renewed (Some t) i = Some (record { id = t.id; info = i })

-- what a face was told of a key after the call: nothing where nothing is due; else what is due, where an interest ended under the id that it has alone
abbrev pub entry_for : Reason → ℕ → Option ToldEntry → Option QueryableInfoType → Option ToldEntry
entry_for way last old None = None
entry_for Update last old (Some i) = Some (record { id = id_for last old; info = i })
entry_for Answer last old (Some i) = Some (record { id = id_for last old; info = i })
entry_for End last old (Some i) = renewed old i

-- the id given last, once a key has become the entry
abbrev pub last_for : ℕ → Option ToldEntry → Option ToldEntry → ℕ
last_for last None (Some e) = e.id
last_for last old new = last

-- a face is told of the key under the id: its information, or that the id stands no more
abbrev pub told_under : ℕ → List ℕ → ℕ → Option QueryableInfoType → Telling
told_under n key id info = record { face = record { 0 = n }; id = id; key = key; info = info; node = 0 }

-- a face is told the entry
abbrev pub declared : ℕ → List ℕ → ToldEntry → Telling
declared n key e = told_under n key e.id (Some e.info)

-- a face is told that the entry's id stands no more
abbrev pub withdrawn : ℕ → List ℕ → ToldEntry → Telling
withdrawn n key e = told_under n key e.id None

-- the difference between two entries
abbrev pub difference : ℕ → List ℕ → Option ToldEntry → Option ToldEntry → List Telling
difference n key None None = []
difference n key (Some t) None = withdrawn n key t ∷ []
difference n key None (Some e) = declared n key e ∷ []
difference n key (Some t) (Some e) = if same_info t.info e.info then [] else declared n key e ∷ []

-- a change of the information of what was told, and nothing else
abbrev pub change : ℕ → List ℕ → Option ToldEntry → Option ToldEntry → List Telling
change n key None new = []
change n key (Some t) None = []
change n key (Some t) (Some e) = if same_info t.info e.info then [] else declared n key e ∷ []

-- all that is due
abbrev pub answer : ℕ → List ℕ → Option ToldEntry → List Telling
answer n key None = []
answer n key (Some e) = declared n key e ∷ []

-- what a face is told where a key becomes the entry
abbrev pub tellings_for : Reason → ℕ → List ℕ → Option ToldEntry → Option ToldEntry → List Telling
tellings_for Update n key old new = difference n key old new
tellings_for Answer n key old new = answer n key new
tellings_for End n key old new = change n key old new

-- a key of a face has become the entry
abbrev pub noted : Reason → ℕ → List ℕ → Option ToldEntry → Option ToldEntry → Account → Account
noted way n key old new a = record { last = last_for a.last old new; rows = a.rows ++ (key, new) ∷ []; tellings = a.tellings ++ tellings_for way n key old new }

-- a face, of which this was told before the call, is told of a key
abbrev pub tell_key : Reason → ℕ → Told → Account → KeyDue → Account
tell_key way n told a k = noted way n k.0 (at_text k.0 told) (entry_for way a.last (at_text k.0 told) k.1) a

-- a face is told of keys, behind what others are told
abbrev pub tell_keys : Reason → ℕ → ToldSet → List KeyDue → List Telling → Account
tell_keys way n ear keys before = fold (tell_key way n ear.told) (record { last = ear.last; rows = []; tellings = before }) keys

-- with what becomes of a face
abbrev pub with_account : ℕ → Account → Planned → Planned
with_account n a p = record { plan = p.plan ++ (record { face = record { 0 = n }; last = a.last; rows = a.rows }) ∷ []; tellings = a.tellings }

-- a face is told, if it is there
abbrev pub tell_face : Reason → ToldSets → Planned → FaceUpdate → Planned
tell_face way ears p d = option_map_or (λ (e : ToldSet). with_account d.face.0 (tell_keys way d.face.0 e d.keys p.tellings) p) (at_face d.face.0 ears) p

-- what a call leaves of faces, and what they are told
abbrev pub tell_faces : Reason → ToldSets → List FaceUpdate → Planned
tell_faces way ears dues = fold (tell_face way ears) (record { plan = []; tellings = [] }) dues

-- the id given last is above those of 32 bits
abbrev pub is_above : FacePlan → Bool
is_above p = not (nat_lt p.last (2 ^ 32))

-- some face needs an id above those of 32 bits
abbrev pub lacks_ids : Reason → ToldSets → List FaceUpdate → Bool
lacks_ids way ears dues = list_any is_above (tell_faces way ears dues).plan

-- a key becomes the entry, or goes
abbrev pub put_row : Told → Row → Told
put_row told (key, None) = remove_entry (is_at (text_cmp key)) told
put_row told (key, Some e) = insert_entry text_cmp told key e

-- a face after its plan
abbrev pub planned_ear : FacePlan → ToldSet → ToldSet
planned_ear p e = record { last = p.last; told = fold put_row e.told p.rows }

-- a face's plan is put, if the face is there
abbrev pub put_face : ToldSets → FacePlan → ToldSets
put_face ears p = option_map_or (λ (e : ToldSet). set_value (is_at (nat_cmp p.face.0)) ears (planned_ear p e)) (at_face p.face.0 ears) ears

-- the plan is put
abbrev pub put_plan : List FacePlan → ToldSets → ToldSets
put_plan plan ears = fold put_face ears plan

-- what the faces were told after a call
abbrev pub tell_due : Reason → ToldSets → List FaceUpdate → ToldSets
tell_due way ears dues = put_plan (tell_faces way ears dues).plan ears
