-- A name that was meant.
use Rattle.std.specs.Prelude.{ℕ, ◌*◌, Bool, ◌&&◌, false, List, [], ◌∷◌, Option, Some, None, if◌then◌else◌, length, map, nat_eq, nat_le, nat_lt}
use Rattle.strsim.specs.Edits.{levenshtein_row}
use Rattle.zq_lines.specs.declared.near.TheConstants.{LONGEST, NAMES}

-- how many letters have to change, come or go for the name to stand there
abbrev pub changes : List ℕ → List ℕ → ℕ
changes word name = levenshtein_row nat_eq word name (length name)

-- at most two letters of this, and at most half of them, have to change
unfoldable pub is_near : List ℕ → List ℕ → Bool
is_near word name =
    if nat_lt LONGEST (length word) then false
    else nat_le (changes word name) 2 && nat_le (2 * changes word name) (length word)

-- the first of these names that is near, if one is
abbrev pub near_in : List ℕ → List (List ℕ) → Option (List ℕ)
near_in word [] = None
near_in word (name ∷ names) = if is_near word name then Some name else near_in word names

-- the first name that is near, if one is
abbrev pub nearest : List ℕ → Option (List ℕ)
nearest word = near_in word (map (λ t. t.now) NAMES.now)
