-- Routes that take each face once.
use Rattle.std.specs.Prelude.{ℕ, Bool, ◌==◌, List, [], ◌∷◌, ◌++◌, if◌then◌else◌, Option, Some, None}
use Rattle.std.specs.List.{list_any}

-- whether the pair is of the face
abbrev pub is_face : {T : Type 0} → ℕ → ℕ × T → Bool
is_face face p = face == p.0

-- whether the route has the face
abbrev pub has_face : {T : Type 0} → ℕ → List (ℕ × T) → Bool
has_face face route = list_any (is_face face) route

-- the route with the pair, unless its face is there
abbrev pub with_first : {T : Type 0} → List (ℕ × T) → ℕ × T → List (ℕ × T)
with_first route p = if has_face p.0 route then route else route ++ p ∷ []

-- the pair of a face and an element, where there is one
abbrev pub pair_of : {T : Type 0} → ℕ → Option T → List (ℕ × T)
pair_of face None = []
pair_of face (Some x) = (face, x) ∷ []
