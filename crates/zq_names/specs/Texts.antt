-- Texts as lists of bytes: order, cuts before a `/`.
use Rattle.std.specs.Prelude.{◌≡◌, ℕ, ◌<◌, ◌≤◌, Bool, Option, Some, None, List, [], ◌∷◌, ◌++◌, length, take, drop, slice_index, slice_index_or, zero, suc, if◌then◌else◌, ◌==◌, ◌⊎◌}
use Rattle.std.specs.List.{Contains, position}
use Rattle.std.specs.Str.{IsCharBoundary}
use Rattle.std.specs.declared.cmp.Ordering.{Ordering}
use Rattle.std.specs.Ordering.{nat_cmp}
use Rattle.std.specs.Cmp.Lexicographic.{slice_cmp}

-- texts are ordered by their bytes
abbrev pub text_cmp : List ℕ → List ℕ → Ordering
text_cmp = slice_cmp nat_cmp

-- s is t followed by a `/` and more, so it lies below t
abbrev pub IsBelow : List ℕ → List ℕ → Type 0
IsBelow t s = (rest : List ℕ) × (s ≡ t ++ 47 ∷ rest)

-- the parts of t that end before one of its first n places with a `/`
abbrev pub heads_to : List ℕ → ℕ → List (List ℕ)
heads_to t zero = []
heads_to t (suc k) = heads_to t k ++ (if slice_index t k == 47 then take k t ∷ [] else [])

-- the parts of t that end before a `/`, and t
abbrev pub heads : List ℕ → List (List ℕ)
heads t = heads_to t (length t) ++ t ∷ []

-- the parts of t that end before one of its first n places with a `/` are among the texts
pub record IsKnownTo (ts : List (List ℕ)) (t : List ℕ) (n : ℕ) : Type 0 where
  pub in_range : n ≤ length t
  pub known : (s : List ℕ) → Contains (heads_to t n) s → Contains ts s

-- each text comes after those that it lies below
abbrev pub IsChain : List (List ℕ) → Type 0
IsChain hs = (k : ℕ) → k < length hs → (s : List ℕ) → IsBelow s (slice_index_or hs k []) → Contains (take k hs) s

-- each text comes after those that it lies below, or these are among the known ones
abbrev pub IsChainAfter : List (List ℕ) → List (List ℕ) → Type 0
IsChainAfter known hs = (k : ℕ) → k < length hs → (s : List ℕ) → IsBelow s (slice_index_or hs k []) → Contains known s ⊎ Contains (take k hs) s

-- the longest part of t that ends before one of its first n places with a `/`, or the root's text
abbrev pub parent_to : List ℕ → ℕ → List ℕ
parent_to t zero = []
parent_to t (suc k) = if slice_index t k == 47 then take k t else parent_to t k

-- the text cut before its last `/`
abbrev pub parent_of : List ℕ → List ℕ
parent_of t = parent_to t (length t)

-- the last chunk of t, with the `/` before it where it has one
abbrev pub last_part : List ℕ → List ℕ
last_part t = drop (length (parent_of t)) t

-- the character `*`
abbrev pub is_star_byte : ℕ → Bool
is_star_byte c = c == 42

-- the text cut before the chunk that its first `*` stands in
abbrev pub cut_at_star : List ℕ → Option ℕ → List ℕ
cut_at_star t None = t
cut_at_star t (Some k) = parent_of (take k t)

-- t cut before its first chunk with a `*`
abbrev pub nonwild : List ℕ → List ℕ
nonwild t = cut_at_star t (position is_star_byte t)

-- the first k bytes are what stands before the first chunk with a `*`
pub record IsCutBefore (t : List ℕ) (k : ℕ) : Type 0 where
  pub in_range : k < length t
  pub boundary : IsCharBoundary t k
  pub slash : 0 < k → slice_index t k ≡ 47
  pub is : nonwild t ≡ take k t
