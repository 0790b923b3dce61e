-- The ids of one side of a face in a row, by their nodes.
use Rattle.std.specs.Prelude.{◌≡◌, ℕ, ◌+◌, ◌*◌, ◌<◌, ◌≤◌, List, length, slice_index, Option, Some, None}
use Rattle.std.specs.Option.{IsSome}
use Rattle.std.specs.List.{All, Contains, insert, remove}
use Rattle.zq_names.specs.Border.{IsBorder}
use Rattle.zq_tables.specs.FaceIds.{of_id}

-- the node, or 0 for none
abbrev pub node_or : Option ℕ → ℕ
node_or None = 0
node_or (Some node) = node

-- ids of 16 bits rank by their nodes, and those of one node by themselves
abbrev pub rank : ℕ → ℕ → ℕ
rank node i = node * 65536 + i

-- the rank of an id by its node
abbrev pub rank_of : List (ℕ × ℕ) → ℕ → ℕ
rank_of es i = rank (node_or (of_id es i)) i

-- an id of 16 bits that has a node
abbrev pub HasNode : List (ℕ × ℕ) → ℕ → Type 0
HasNode es i = (i < 65536) × IsSome (of_id es i)

-- an id of more than 16 bits has no node
abbrev pub AreShort : List (ℕ × ℕ) → Type 0
AreShort es = (i : ℕ) → 65536 ≤ i → of_id es i ≡ None

-- the row has the ids that have a node, and their ranks rise
pub record IsIndex (es : List (ℕ × ℕ)) (row : List ℕ) : Type 0 where
  pub has : (i : ℕ) → IsSome (of_id es i) → Contains row i
  pub only : All (HasNode es) row
  pub rising : (k l : ℕ) → k < l → l < length row → rank_of es (slice_index row k) < rank_of es (slice_index row l)

-- in the row, place i is between the ids of lesser rank and the others
abbrev pub Divides : List (ℕ × ℕ) → ℕ → List ℕ → ℕ → Type 0
Divides es r row i = IsBorder (λ x. rank_of es x < r) (λ x. r ≤ rank_of es x) row i

-- the id has come into the row by its rank r
pub record Comes (es : List (ℕ × ℕ)) (old new : List ℕ) (r id : ℕ) : Type 0 where
  pub at : ℕ
  pub divides : Divides es r old at
  pub is : new ≡ insert old at id

-- the id has gone from the row
pub record Goes (old new : List ℕ) (id : ℕ) : Type 0 where
  pub at : ℕ
  pub in_range : at < length old
  pub was : slice_index old at ≡ id
  pub is : new ≡ remove old at
