-- What a side of a branch is seen as.
use Rattle.std.specs.Prelude.{ℕ, List, [], Option, None, Some}
use Rattle.std.specs.declared.boxed.Box.{Box}

-- the numbers of a side, in order
abbrev pub side : {A : Type 0} → Option (Box (List ℕ) A) → List ℕ
side None = []
side (Some b) = b.value
