-- A filter that all pass.
use Rattle.std.proofs.Common.{◌≡◌, refl, ap, true, List, [], ◌∷◌}
use Rattle.std.specs.List.{filter}

pub filter_all : {X : Type 0} (xs : List X) → filter (λ _. true) xs ≡ xs
filter_all [] = refl
filter_all (x ∷ xs) = ap (λ l. x ∷ l) (filter_all xs)
