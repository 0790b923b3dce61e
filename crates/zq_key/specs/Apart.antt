-- Texts whose first bytes show that they do not meet a key.
use Rattle.std.specs.Prelude.{◌≡◌, ℕ, ◌+◌, ◌<◌, Bool, true, false, not, ◌&&◌, ◌||◌, ◌==◌, ◌⊎◌, List, [], ◌∷◌, length, take, slice_index}
use Rattle.zq_key.specs.Match.{meets_by}
use Rattle.zq_key.specs.Key.{is_stars, is_verbatim, chunk_meets}

-- whether a byte may be of a `*` or of a `$*`
abbrev pub is_wild : ℕ → Bool
is_wild c = (c == 42) || (c == 36)

-- whether no text that begins with the first one meets the second: they agree up to a byte, without anything wild, and differ there
abbrev pub is_apart : List ℕ → List ℕ → Bool
is_apart [] u = false
is_apart (x ∷ t) [] = not (is_wild x) && not (x == 47)
is_apart (x ∷ t) (y ∷ u) = not (is_wild x) && not (is_wild y) && (not (x == y) || is_apart t u)

-- the first k + 1 bytes show that the text doesn't meet the key
pub record IsApartAt (text key : List ℕ) (k : ℕ) : Type 0 where
  pub in_range : k < length text
  pub byte : slice_index text k < 255
  pub apart : is_apart (take (k + 1) text) key ≡ true

-- two chunks agree up to a byte, without anything wild, and differ there
abbrev pub differs : List ℕ → List ℕ → Bool
differs [] [] = false
differs [] (y ∷ g) = not (is_wild y)
differs (x ∷ h) [] = not (is_wild x)
differs (x ∷ h) (y ∷ g) = not (is_wild x) && not (is_wild y) && (not (x == y) || differs h g)

-- whether two lists of chunks meet
abbrev pub chunks_meet : List (List ℕ) → List (List ℕ) → Bool
chunks_meet a b = meets_by is_stars is_verbatim chunk_meets a b

-- the first chunks differ, or neither of them is `**` and the others don't meet
abbrev pub Misses : List (List ℕ) → List (List ℕ) → Type 0
Misses [] gs = ⊥
Misses (h ∷ hs) [] = is_stars h ≡ false
Misses (h ∷ hs) (g ∷ gs) = (differs h g ≡ true) ⊎ ((is_stars h ≡ false) × (is_stars g ≡ false) × (chunks_meet hs gs ≡ false))
