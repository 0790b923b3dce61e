-- What the walks over two lists of parts compute on the way.
use Rattle.std.specs.Prelude.{◌≡◌, Bool, true, false, not, ◌&&◌, ◌||◌, if◌then◌else◌, List, [], ◌∷◌, Option, Some}
use Rattle.zq_key.specs.Match.{covers_by}

-- whether a wild part followed by p covers s
unfoldable pub wild_covers : {A : Type 0} → (A → Bool) → (A → Bool) → (A → A → Bool) → List A → List A → Bool
wild_covers wild fixed agree p [] = covers_by wild fixed agree p []
wild_covers wild fixed agree p (y ∷ s) = covers_by wild fixed agree p (y ∷ s) || (not (fixed y) && wild_covers wild fixed agree p s)

-- the same where the wild part takes at least one part
unfoldable pub wild_takes : {A : Type 0} → (A → Bool) → (A → Bool) → (A → A → Bool) → List A → List A → Bool
wild_takes wild fixed agree p [] = false
wild_takes wild fixed agree p (y ∷ s) = not (fixed y) && wild_covers wild fixed agree p s

-- whether the first part is there and is wild
abbrev pub starts_wild : {A : Type 0} → (A → Bool) → List A → Bool
starts_wild wild [] = false
starts_wild wild (x ∷ xs) = wild x

-- whether no part passes the test
abbrev pub has_none : {A : Type 0} → (A → Bool) → List A → Bool
has_none test [] = true
has_none test (x ∷ xs) = not (test x) && has_none test xs

-- what follows the last wild part of a list, or the given answer where it has none
unfoldable pub after_last : {A : Type 0} → (A → Bool) → Option (List A) → List A → Option (List A)
after_last wild known [] = known
after_last wild known (x ∷ xs) = if wild x then after_last wild (Some xs) xs else after_last wild known xs

-- the test that nothing passes
abbrev pub never : {A : Type 0} → A → Bool
never x = false

-- both lists go on by one part, and these agree and aren't wild
abbrev pub Advances : {A : Type 0} → (A → Bool) → (A → A → Bool) → List A → List A → List A → List A → Type 0
Advances {A = A} wild agree a b a' b' = (x : A) × (y : A) × (a ≡ (x ∷ a')) × (b ≡ (y ∷ b')) × (wild x ≡ false) × (wild y ≡ false) × (agree x y ≡ true)

-- the lists don't go on so
abbrev pub Stops : {A : Type 0} → (A → Bool) → (A → A → Bool) → List A → List A → Type 0
Stops wild agree [] b = Unit {0}
Stops wild agree (x ∷ a) [] = Unit {0}
Stops wild agree (x ∷ a) (y ∷ b) = wild x ≡ false → wild y ≡ false → agree x y ≡ false

-- the list is empty
abbrev pub is_nil : {A : Type 0} → List A → Bool
is_nil [] = true
is_nil (x ∷ xs) = false

-- the parts before the first fixed one
abbrev pub before_fixed : {A : Type 0} → (A → Bool) → List A → List A
before_fixed fixed [] = []
before_fixed fixed (x ∷ xs) = if fixed x then [] else x ∷ before_fixed fixed xs

-- the parts from the first fixed one on
abbrev pub from_fixed : {A : Type 0} → (A → Bool) → List A → List A
from_fixed fixed [] = []
from_fixed fixed (x ∷ xs) = if fixed x then x ∷ xs else from_fixed fixed xs

-- both lists are over, or their heads agree and the rest passes the test
abbrev pub both_go_on : {A : Type 0} → (A → A → Bool) → (List A → List A → Bool) → List A → List A → Bool
both_go_on agree test [] [] = true
both_go_on agree test [] (y ∷ ys) = false
both_go_on agree test (x ∷ xs) [] = false
both_go_on agree test (x ∷ xs) (y ∷ ys) = agree x y && test xs ys
