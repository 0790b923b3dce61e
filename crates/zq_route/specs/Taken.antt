-- The faces that a route has.
use Rattle.std.specs.Prelude.{ℕ, Bool, ◌≡◌, ◌==◌, ◌<◌, List, Option, Some, None}
use Rattle.std.specs.List.{AllPairs, list_any}
use Rattle.std.specs.Ordering.{nat_cmp}
use Rattle.std.specs.BTreeSet.{BTreeSet, contains}

-- whether the face is among the faces
abbrev pub has : ℕ → List ℕ → Bool
has face faces = list_any (λ f. face == f) faces

-- each face is below those after it
abbrev pub Rises : List ℕ → Type 0
Rises faces = AllPairs (λ x y. x < y) faces

-- the set has just the faces
abbrev pub IsSetOf : List ℕ → BTreeSet ℕ → Type 0
IsSetOf faces set = (n : ℕ) → contains nat_cmp set n ≡ has n faces

-- the faces rise, or there is a set of them
abbrev pub IsKept : List ℕ → Option (BTreeSet ℕ) → Type 0
IsKept faces None = Rises faces
IsKept faces (Some set) = IsSetOf faces set
