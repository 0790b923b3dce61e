-- Namespaces: a text behind a prefix, and what is left of a key behind one.
use Rattle.std.specs.Prelude.{◌≡◌, ℕ, Bool, true, List, [], ◌∷◌, ◌++◌, ◌==◌, if◌then◌else◌, Option, Some, None}
use Rattle.std.specs.List.{join_with_byte, position_or_len}
use Rattle.std.specs.Option.{option_map}
use Rattle.std.specs.Prelude.{take, drop}
use Rattle.std.specs.Cmp.Lexicographic.{slice_cmp}
use Rattle.std.specs.Ordering.{nat_cmp}
use Rattle.std.specs.Str.{bytes_eq}
use Rattle.zq_key.specs.Key.{chunks, is_stars, chunk_meets, includes, intersects, is_key, is_plain}

-- the character `/`
abbrev pub is_slash : ℕ → Bool
is_slash c = c == 47

-- a text with a prefix and a `/` in front
abbrev pub behind : List ℕ → List ℕ → List ℕ
behind n k = n ++ 47 ∷ k

-- a text behind a namespace
abbrev pub prefixed : List ℕ → List ℕ → List ℕ
prefixed n [] = n
prefixed n (c ∷ k) = n ++ 47 ∷ c ∷ k

-- the chunks that are left of a key's behind a namespace's
abbrev pub strip_chunks : List (List ℕ) → List (List ℕ) → Option (List (List ℕ))
strip_chunks n [] = None
strip_chunks [] (y ∷ k) = Some (y ∷ k)
strip_chunks (x ∷ n) (y ∷ k) =
    if is_stars y then Some (y ∷ k)
    else (if chunk_meets x y then strip_chunks n k else None)

-- what is left of a key behind a namespace
unfoldable pub strip : List ℕ → List ℕ → Option (List ℕ)
strip n k = option_map (join_with_byte 47) (strip_chunks (chunks n) (chunks k))

-- the first character with all up to the next `/`, and the rest
abbrev pub first_chunk : List ℕ → Option (List ℕ × List ℕ)
first_chunk [] = None
first_chunk (c ∷ text) = Some (c ∷ take (position_or_len is_slash text) text, drop (position_or_len is_slash text) text)

-- behind a prefix texts are keys, and plain ones, where they are without it, and they stand to each other as without it; what is left of each behind the prefix is the text, and of the prefix itself nothing is
pub record IsTransparent (n : List ℕ) : Type 0 where
  pub key : (k : List ℕ) → is_key (behind n k) ≡ is_key k
  pub plain : (k : List ℕ) → is_plain (behind n k) ≡ is_plain k
  pub equal : (a b : List ℕ) → bytes_eq (behind n a) (behind n b) ≡ bytes_eq a b
  pub order : (a b : List ℕ) → slice_cmp nat_cmp (behind n a) (behind n b) ≡ slice_cmp nat_cmp a b
  pub intersects : (a b : List ℕ) → intersects (behind n a) (behind n b) ≡ intersects a b
  pub includes : (a b : List ℕ) → includes (behind n a) (behind n b) ≡ includes a b
  pub left : (k : List ℕ) → strip n (behind n k) ≡ Some k
  pub itself : strip n n ≡ None

-- so is each plain prefix
abbrev pub PlainIsTransparent : Type 0
PlainIsTransparent = (n : List ℕ) → is_plain n ≡ true → IsTransparent n
