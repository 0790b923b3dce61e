-- What a request makes of the records: one entry a target, under the next id there.
use Rattle.std.specs.Prelude.{◌≡◌, ◌<◌, ℕ, ◌+◌, ◌^◌, ◌==◌, ◌&&◌, ◌||◌, Bool, true, false, not, List, [], ◌∷◌, ◌++◌, map, fold, if◌then◌else◌}
use Rattle.std.specs.List.{list_any, AllByRecursion}
use Rattle.std.specs.Option.{unwrap_or, is_some}
use Rattle.std.specs.BTreeMap.{insert_entry}
use Rattle.std.specs.Map.{keys_of}
use Rattle.std.specs.Ordering.{nat_cmp}
use Rattle.zq_message.specs.declared.message.FaceId.{FaceId}
use Rattle.zq_query.specs.Records.{QueryState, Record, Pending, insert_pending, next_id, is_pending, is_none_left}

-- no number stands twice
abbrev pub are_distinct : List ℕ → Bool
are_distinct [] = true
are_distinct (x ∷ xs) = not (list_any (λ y. y == x) xs) && are_distinct xs

-- the numbers of the faces
abbrev pub face_numbers : List FaceId → List ℕ
face_numbers faces = map (λ (f : FaceId). f.0) faces

-- a face has no free id
abbrev pub is_full : QueryState → FaceId → Bool
is_full s face = not (is_some (next_id s face.0))

-- no number is left for the request, or no id at a target
abbrev pub lacks_number : List FaceId → QueryState → Bool
lacks_number targets s = (s.requests + 1 == 2 ^ 64) || list_any (is_full s) targets

-- the id that a target is given; 0 where none is free
abbrev pub given_id : QueryState → FaceId → ℕ
given_id s face = unwrap_or (next_id s face.0) 0

-- a target and its id
abbrev pub given_place : QueryState → FaceId → ℕ × ℕ
given_place s face = (face.0, given_id s face)

-- the entry at a place
abbrev pub entry_at : ℕ → ℕ × ℕ → Pending
entry_at deadline p = record { face = p.0; id = p.1; deadline = deadline }

-- an entry at each place, in the order of the places
abbrev pub entries_at : ℕ → List (ℕ × ℕ) → List Pending
entries_at deadline places = fold (λ l p. insert_pending l (entry_at deadline p)) [] places

-- the record of a request with an entry at each place
abbrev pub asked_record : ℕ → FaceId → ℕ → ℕ → List (ℕ × ℕ) → ℕ → Record
asked_record number asker id qos places deadline = record { number = number; asker = asker; id = id; qos = qos; pending = entries_at deadline places; in_flight = [] }

-- a request without targets has no record
abbrev pub asked_records : ℕ → FaceId → ℕ → ℕ → List (ℕ × ℕ) → ℕ → List Record
asked_records number asker id qos places deadline = if is_none_left places then [] else asked_record number asker id qos places deadline ∷ []

-- the last ids given, after these
abbrev pub giving : List (ℕ × ℕ) → List (ℕ × ℕ) → List (ℕ × ℕ)
giving last_ids places = fold (λ l p. insert_entry nat_cmp l p.0 p.1) last_ids places

-- the request has the next number, and its record stands last
abbrev pub entering : FaceId → ℕ → ℕ → List (ℕ × ℕ) → ℕ → QueryState → QueryState
entering asker id qos places deadline s = record s { records = s.records ++ asked_records s.requests asker id qos places deadline; requests = s.requests + 1 }

-- and each face the id as its last
abbrev pub asking_at : FaceId → ℕ → ℕ → List (ℕ × ℕ) → ℕ → QueryState → QueryState
asking_at asker id qos places deadline s = record (entering asker id qos places deadline s) { last_ids = giving s.last_ids places }

-- each target is given its next id
abbrev pub after_ask : FaceId → ℕ → ℕ → List FaceId → ℕ → QueryState → QueryState
after_ask asker id qos targets deadline s = asking_at asker id qos (map (given_place s) targets) deadline s

-- some place is pending
abbrev pub any_pending : List Record → List (ℕ × ℕ) → Bool
any_pending rs places = list_any (λ p. is_pending p.0 p.1 rs) places

-- what the next request can be given: a number, and places of distinct faces where nothing is pending
pub record IsPlan (s : QueryState) (places : List (ℕ × ℕ)) : Type 0 where
  pub fits : s.requests + 1 < 2 ^ 64
  pub absent : any_pending s.records places ≡ false
  pub distinct : are_distinct (keys_of places) ≡ true
  pub small : AllByRecursion (λ p. (p.0 < 2 ^ 32) × (p.1 < 2 ^ 32)) places
