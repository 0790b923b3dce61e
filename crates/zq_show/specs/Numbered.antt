-- What is written of each item of a list, with its number.
use Rattle.std.specs.Prelude.{ℕ, ◌+◌, List, [], ◌∷◌, ◌++◌}

-- what is written of each item with its number, the first having this one
abbrev pub numbered : {X : Type 0} → (ℕ → X → List ℕ) → ℕ → List X → List ℕ
numbered write n [] = []
numbered write n (x ∷ xs) = write n x ++ numbered write (n + 1) xs
