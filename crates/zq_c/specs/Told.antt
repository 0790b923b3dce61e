-- What C is told.
use Rattle.std.specs.Prelude.{◌≡◌, ◌<◌, ◌≤◌, ◌⊎◌, ◌++◌, ℕ, Bool, List, Option, Some, None, drop, length}
use Rattle.zq_spoken.specs.declared.speaker.Speaker.{Speaker}
use Rattle.zq_spoken.specs.Speaker.{print_of}

-- a handle has something before and after, and the two are in the relation
abbrev pub Becomes : Option Speaker → Option Speaker → (Speaker → Speaker → Type 0) → Type 0
Becomes None then P = ⊥
Becomes (Some s) None P = ⊥
Becomes (Some s) (Some t) P = P s t

-- what was printed last stands at the front of the room, and this is its length
abbrev pub IsGiven : Option Speaker → ℕ → List ℕ → List ℕ → Type 0
IsGiven None len room out = ⊥
IsGiven (Some s) len room out = (len ≡ length (print_of s)) × (out ≡ print_of s ++ drop len room)

-- what was printed last has this length, which is more than the room has, and nothing is written there
abbrev pub IsShort : Option Speaker → ℕ → List ℕ → List ℕ → Type 0
IsShort None len room out = ⊥
IsShort (Some s) len room out = (len ≡ length (print_of s)) × (length room < len) × (out ≡ room)

-- what is told of two texts: 0 and whether they are in relation, or 8 where one of them is no key
abbrev pub IsAsked : Option Bool → Bool → ℕ → Type 0
IsAsked None told status = status ≡ 8
IsAsked (Some is) told status = (status ≡ 0) × (told ≡ is)

-- a status of an opening, but that a handle has something already: 0 to 2, 10 and 11
abbrev pub IsOpeningStatus : ℕ → Type 0
IsOpeningStatus status = (status ≤ 2) ⊎ ((status ≡ 10) ⊎ (status ≡ 11))
