-- What faces declared, the merges of it, and what a declaration, a withdrawal and a closing change.
use Rattle.std.specs.Prelude.{ℕ, Bool, true, false, not, ◌&&◌, ◌∷◌, List, [], map, fold, if◌then◌else◌, Option, Some, None, is_some}
use Rattle.std.specs.Option.{option_map_or, option_and_then}
use Rattle.std.specs.Map.{lookup, remove_entry, set_value}
use Rattle.std.specs.BTreeMap.{insert_entry, is_at}
use Rattle.std.specs.BTreeSet.{insert_key}
use Rattle.std.specs.Ordering.{nat_cmp}
use Rattle.std.specs.Str.{bytes_eq}
use Rattle.zq_message.specs.declared.message.QueryableInfoType.{QueryableInfoType}
use Rattle.zq_message.specs.declared.message.Region.{Region}
use Rattle.zq_message.specs.declared.message.Mode.{Mode}
use Rattle.zq_message.specs.declared.message.Zid.{Zid}
use Rattle.zq_strategy.specs.declared.types.FaceRecord.{FaceRecord}
use Rattle.zq_strategy.specs.declared.types.Declaration.{Declaration}
use Rattle.zq_strategy.specs.declared.types.UnregisterEntityResult.{UnregisterEntityResult}
use Rattle.zq_strategy.specs.declared.types.UnregisterEntityResult.TheVariants as result
use Rattle.zq_index.specs.Infos.{joined, same_info}
use Rattle.zq_index.specs.Texts.{text_cmp}
use Rattle.zq_strategy.specs.Entries.{entries_at, routed_info}
use Rattle.zq_strategy.specs.Regions.{in_routers, is_upstream, strategy_at}
use Rattle.zq_strategy.specs.State.{FaceState, HatState}

-- what stands at the number
abbrev pub at_id : {X : Type 0} → ℕ → List (ℕ × X) → Option X
at_id n es = lookup (is_at (nat_cmp n)) es

-- whether the declaration is on the key
abbrev pub is_on : List ℕ → ℕ × Declaration → Bool
is_on key d = bytes_eq d.1.key key

-- the key of a declaration
abbrev pub key_of : ℕ × Declaration → List ℕ
key_of d = d.1.key

-- a declaration on the key is merged in
abbrev pub with_declared : List ℕ → Option QueryableInfoType → ℕ × Declaration → Option QueryableInfoType
with_declared key m d = if is_on key d then joined m (Some d.1.info) else m

-- what the face declared on the key, merged
abbrev pub info : List ℕ → FaceState → Option QueryableInfoType
info key f = fold (with_declared key) None f.declared

-- what the face declared on the key is merged in
abbrev pub with_face : List ℕ → Option QueryableInfoType → ℕ × FaceState → Option QueryableInfoType
with_face key m f = joined m (info key f.1)

-- what the faces declared on the key, merged
abbrev pub faces_info : List ℕ → List (ℕ × FaceState) → Option QueryableInfoType
faces_info key faces = fold (with_face key) None faces

-- the routers' entries on the key, merged
abbrev pub routers_info : List ℕ → HatState → Option QueryableInfoType
routers_info key s = routed_info (entries_at key s.entries)

-- the region's information on the key: of a region of routers that of their entries, else that of its faces
abbrev pub region_info : List ℕ → HatState → Option QueryableInfoType
region_info key s = in_routers (strategy_at s) (routers_info key s) (faces_info key s.faces)

-- the texts in order, with the key of the declaration in its place, once
abbrev pub with_key : List (List ℕ) → ℕ × Declaration → List (List ℕ)
with_key keys d = insert_key text_cmp keys (key_of d)

-- the texts in order, with the keys of the face
abbrev pub with_keys : List (List ℕ) → ℕ × FaceState → List (List ℕ)
with_keys keys f = fold with_key keys f.1.declared

-- the keys that the faces declared, each once, in order
abbrev pub declared_keys : List (ℕ × FaceState) → List (List ℕ)
declared_keys faces = fold with_keys [] faces

-- the face of the number
abbrev pub face_at : ℕ → HatState → Option FaceState
face_at number s = at_id number s.faces

-- the list is not empty
abbrev pub has_any : {X : Type 0} → List X → Bool
has_any [] = false
has_any (x ∷ xs) = true

-- whether the hat has the face of the number
abbrev pub has_face : ℕ → HatState → Bool
has_face number s = is_some (face_at number s)

-- the face of the number is changed
abbrev pub change_face : ℕ → (FaceState → FaceState) → HatState → HatState
change_face number f s = record s { faces = option_map_or (λ x. set_value (is_at (nat_cmp number)) s.faces (f x)) (face_at number s) s.faces }

-- the same id replaces
abbrev pub declare : ℕ → List ℕ → QueryableInfoType → FaceState → FaceState
declare id key i f = record f { declared = insert_entry nat_cmp f.declared id (record { key = key; info = i }) }

-- the declaration of the id goes
abbrev pub withdraw : ℕ → FaceState → FaceState
withdraw id f = record f { declared = remove_entry (is_at (nat_cmp id)) f.declared }

-- the face declares the key under the id; the node is nothing to it
abbrev pub registered : ℕ → ℕ → List ℕ → ℕ → QueryableInfoType → HatState → HatState
registered number id key node i s = change_face number (declare id key i) s

-- the face withdraws the id
abbrev pub unregistered : ℕ → ℕ → HatState → HatState
unregistered number id s = change_face number (withdraw id) s

-- the declaration of the id at a face
abbrev pub declaration : ℕ → FaceState → Option Declaration
declaration id f = at_id id f.declared

-- the face's declaration of the id
abbrev pub declaration_at : ℕ → ℕ → HatState → Option Declaration
declaration_at number id s = option_and_then (declaration id) (face_at number s)

-- whether the declaration is on another key
abbrev pub is_apart : List ℕ → Declaration → Bool
is_apart key d = not (bytes_eq d.key key)

-- whether the id stands for another key at the face
abbrev pub clashes_at : ℕ → ℕ → List ℕ → HatState → Bool
clashes_at number id key s = option_map_or (is_apart key) (declaration_at number id s) false

-- whether the region's information on the key ended, stayed or changed
abbrev pub changed : List ℕ → Option QueryableInfoType → Option QueryableInfoType → UnregisterEntityResult
changed key before None = result.LastUnregistered key
changed key None (Some b) = result.InfoUpdate key
changed key (Some a) (Some b) = if same_info a b then result.DisableRoutes key else result.InfoUpdate key

-- what a withdrawal answers, from the hats before and after it
abbrev pub unregister_result : HatState → HatState → Declaration → UnregisterEntityResult
unregister_result old new d = changed d.key (region_info d.key old) (region_info d.key new)

-- a face that has declared nothing and was told nothing
abbrev pub new_face : FaceRecord → ℕ → FaceState
new_face opened told_start = record { zid = opened.zid; mode = opened.mode; remote_bound = opened.remote_bound; declared = []; last_told = told_start; initial = false; finalized = []; nodes = record { ids = [] } }

-- a hat without faces
abbrev pub new_hat : Region → Mode → Zid → ℕ → HatState
new_hat region north_mode own told_start = record { region = region; north_mode = north_mode; own = own; told_start = told_start; faces = []; entries = []; network = record { nodes = []; trees = []; distances = [] } }

-- a client region has its face, and takes no other
abbrev pub is_full : HatState → Bool
is_full s = is_upstream (strategy_at s) && has_any s.faces

-- the hat with the face
abbrev pub with_face_opened : FaceRecord → HatState → HatState
with_face_opened opened s = record s { faces = insert_entry nat_cmp s.faces opened.face.0 (new_face opened s.told_start) }

-- the hat without the face
abbrev pub without_face : ℕ → HatState → HatState
without_face number s = record s { faces = remove_entry (is_at (nat_cmp number)) s.faces }

-- the keys that the face declared, by id, one for each declaration
abbrev pub keys_of_face : ℕ → HatState → List (List ℕ)
keys_of_face number s = option_map_or (λ f. map key_of f.declared) (face_at number s) []
