-- What the gateway keeps of its faces in three places agrees: the open faces, the hats, and what stands for keys; and what it keeps of open requests is in order.
use Rattle.std.specs.Prelude.{◌≡◌, ℕ, ◌==◌, ◌<◌, ◌≤◌, Bool, true, false, List, [], map, length, Some, None}
use Rattle.std.specs.List.{AllByRecursion, filter, flat_map}
use Rattle.std.specs.List.Sorted.{IsStrictlySortedBy}
use Rattle.std.specs.Option.{is_some, option_map_or}
use Rattle.std.specs.Ordering.{nat_cmp}
use Rattle.zq_message.specs.declared.message.Region.{Region}
use Rattle.zq_message.specs.Region.{region_index}
use Rattle.zq_strategy.specs.declared.types.Declaration.{Declaration}
use Rattle.zq_strategy.specs.State.{FaceState, HatState}
use Rattle.zq_strategy.specs.Kept.{face_at, has_face, key_of}
use Rattle.zq_strategy.specs.Routers.{entry_at}
use Rattle.zq_query.specs.Closing.{at_face}
use Rattle.zq_query.specs.Records.{Pending, Record, is_closed, is_entry, is_reply}
use Rattle.zq_tables.specs.Naming.{Names, face_queryables, naming_at}
use Rattle.zq_machine.specs.declared.face.OpenFace.{OpenFace}
use Rattle.zq_machine.specs.State.{State, at, entry_rows, hat_at, hat_of, is_open}

-- the open face is one of the region's
abbrev pub stands_in : Region → OpenFace → Bool
stands_in r o = region_index o.region == region_index r

-- the face is open in the region
abbrev pub is_open_in : Region → ℕ → List (ℕ × OpenFace) → Bool
is_open_in r face faces = option_map_or (stands_in r) (at face faces) false

-- the id of a declaration with its key
abbrev pub id_and_key : ℕ × Declaration → ℕ × List ℕ
id_and_key d = (d.0, key_of d)

-- the keys that the face has declared in the hat, by id
abbrev pub keys_in : ℕ → HatState → Names
keys_in face h = option_map_or (λ (f : FaceState). map id_and_key f.declared) (face_at face h) []

-- what a hat has of an open face is how it was opened
pub record IsCopy (o : OpenFace) (f : FaceState) : Type 0 where
  pub zid : f.zid ≡ o.zid
  pub mode : f.mode ≡ o.mode
  pub remote_bound : f.remote_bound ≡ o.remote_bound

-- the number of a record
abbrev pub number_of : Record → ℕ
number_of r = r.number

-- the entries of a record
abbrev pub pending_of : Record → List Pending
pending_of r = r.pending

-- the entries of all records
abbrev pub all_pending : List Record → List Pending
all_pending rs = flat_map pending_of rs

-- the replies of a record that are in flight
abbrev pub in_flight_of : Record → List ℕ
in_flight_of r = r.in_flight

-- the replies of all records that are in flight
abbrev pub all_in_flight : List Record → List ℕ
all_in_flight rs = flat_map in_flight_of rs

-- the numbers of the records rise, and are below the next request's; no id is pending twice at a face; a record has one entry at a face at most; no reply is in flight twice, and each is below the next one
pub record IsNumbered (records : List Record) (requests replies : ℕ) : Type 0 where
  pub numbers : IsStrictlySortedBy nat_cmp (map number_of records)
  pub below : AllByRecursion (λ n. n < requests) (map number_of records)
  pub places : (face id : ℕ) → length (filter (is_entry face id) (all_pending records)) ≤ 1
  pub once : AllByRecursion (λ r. (face : ℕ) → length (filter (at_face face) r.pending) ≤ 1) records
  pub flights : (reply : ℕ) → length (filter (is_reply reply) (all_in_flight records)) ≤ 1
  pub flown : AllByRecursion (λ n. n < replies) (all_in_flight records)

-- no open face counts as closed; the hat of a region has the faces that are open there and no others, each as it was opened; each open face has a hat; what stands for keys is kept for the open faces and no others; and the queryables that hold the nodes of their keys at a face are those that its hat has, under the same ids with the same keys; the keys of entries that hold nodes are those on which routers of the regions have entries; no router's entry is under the gateway's own id; the face of each entry that is pending is open
pub record Agrees (s : State) : Type 0 where
  pub apart : (face : ℕ) → is_open face s.core ≡ true → is_closed s.core.queries.closed face ≡ false
  pub seats : (r : Region) (h : HatState) (face : ℕ) → hat_at r s.core.hats ≡ Some h → has_face face h ≡ is_open_in r face s.core.faces
  pub homes : (face : ℕ) → is_open face s.core ≡ true → is_some (hat_of face s.core) ≡ true
  pub copies : (face : ℕ) (o : OpenFace) (h : HatState) (f : FaceState) → at face s.core.faces ≡ Some o → hat_of face s.core ≡ Some h → face_at face h ≡ Some f → IsCopy o f
  pub named : (face : ℕ) → is_some (naming_at face s.names) ≡ is_open face s.core
  pub held : (face : ℕ) (h : HatState) → hat_of face s.core ≡ Some h → face_queryables face s.names ≡ keys_in face h
  pub routed : s.names.rows ≡ entry_rows s.core.hats
  pub foreign : (r : Region) (h : HatState) (key : List ℕ) → hat_at r s.core.hats ≡ Some h → entry_at s.core.config.zid.0 key h ≡ None
  pub targets : AllByRecursion (λ (e : Pending). is_open e.face s.core ≡ true) (all_pending s.core.queries.records)
  pub numbered : IsNumbered s.core.queries.records s.core.queries.requests s.core.queries.replies
