-- Texts whose last bytes show that they are apart.
use Rattle.std.specs.Prelude.{ℕ, Bool, false, not, ◌&&◌, ◌==◌, if◌then◌else◌, List, [], ◌∷◌, reverse}

-- whether two lists are the same up to two bytes that differ and aren't `/`, with no `*` before them or there
abbrev pub heads_differ : List ℕ → List ℕ → Bool
heads_differ [] u = false
heads_differ (x ∷ t) [] = false
heads_differ (x ∷ t) (y ∷ u) = not (x == 42) && not (y == 42) && (if x == y then heads_differ t u else not (x == 47) && not (y == 47))

-- the same of two texts that are read from their ends
abbrev pub ends_differ : List ℕ → List ℕ → Bool
ends_differ a b = heads_differ (reverse a) (reverse b)
