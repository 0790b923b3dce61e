-- The storages of a bus.
use Rattle.std.specs.Prelude.{ℕ, ◌+◌, ◌-◌, ◌^◌, ◌<◌, ◌≤◌, ◌==◌, ◌&&◌, Bool, true, not, List, [], ◌∷◌, Option, Some, None, if◌then◌else◌, length, slice_get, slice_set, sum_by}
use Rattle.std.specs.List.{list_all}
use Rattle.std.specs.Option.{option_map_or}
use Rattle.zq_message.specs.declared.message.FaceId.{FaceId}
use Rattle.zq_key.specs.Key.{includes, is_plain}
use Rattle.zq_store.specs.Held.{Change, Pairs, changed, meeting}
use Rattle.zq_store.specs.declared.stores.PutRefusal.{PutRefusal}
use Rattle.zq_store.specs.declared.stores.PutRefusal.TheVariants as refusal

-- a storage: the key that it answers for, its face, whether it is complete, and what it holds
pub record Stored : Type 0 where
  pub key : List ℕ
  pub face : FaceId
  pub complete : Bool
  pub held : Pairs

-- a storage with no pairs
abbrev pub new_store : List ℕ → FaceId → Bool → Stored
new_store key face complete = record { key = key; face = face; complete = complete; held = [] }

-- the storage has this face
abbrev pub is_face : FaceId → Stored → Bool
is_face face s = s.face.0 == face.0

-- the pairs of the storage with this number
abbrev pub held_at : List Stored → ℕ → Pairs
held_at stores store = option_map_or (λ (s : Stored). s.held) (slice_get stores store) []

-- ---- puts and deletes

-- why a storage, if it is one, does not take the key
abbrev pub refusal_at : List ℕ → Option Stored → Option PutRefusal
refusal_at key None = Some refusal.UnknownStore
refusal_at key (Some s) =
    if not (is_plain key) then Some refusal.NotPlain
    else (if not (includes s.key key) then Some refusal.Outside else None)

-- the storage after a change of its pairs
abbrev pub changed_store : Change → Stored → Stored
changed_store c s = record s { held = changed s.held c }

-- the storages, of which this one, if it is one, is changed
abbrev pub change_by : ℕ → Change → List Stored → Option Stored → List Stored
change_by store c stores None = stores
change_by store c stores (Some s) = slice_set stores store (changed_store c s)

-- the storages, of which the one with this number is changed
abbrev pub change_at : ℕ → Change → List Stored → List Stored
change_at store c stores = change_by store c stores (slice_get stores store)

-- ---- how many pairs

-- how many pairs of a storage meet the key
abbrev pub count_in : List ℕ → Stored → ℕ
count_in key s = length (meeting key s.held)

-- how many pairs of all storages meet the key
abbrev pub count_all : List ℕ → List Stored → ℕ
count_all key stores = sum_by (count_in key) stores

-- how many pairs a storage has
abbrev pub size_of : Stored → ℕ
size_of s = length s.held

-- how many pairs all storages have
abbrev pub size_all : List Stored → ℕ
size_all stores = sum_by size_of stores

-- ---- what is kept

-- the pair's key is a plain one that the storage's key includes
abbrev pub fits_store : List ℕ → List ℕ × List ℕ → Bool
fits_store key p = is_plain p.0 && includes key p.0

-- all pairs of the storage fit it
abbrev pub holds_own : Stored → Bool
holds_own s = list_all (fits_store s.key) s.held

-- the faces of the storages are numbered one after another, from this number on
abbrev pub numbered : ℕ → List Stored → Bool
numbered n [] = true
numbered n (s ∷ more) = (s.face.0 == n) && numbered (n + 1) more

-- the number is no less than that of all pairs, unless it is the greatest of 64 bits
abbrev pub IsSize : ℕ → List Stored → Type 0
IsSize n stores = n < 2 ^ 64 - 1 → size_all stores ≤ n
