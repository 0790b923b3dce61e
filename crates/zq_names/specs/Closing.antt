-- How all nodes below a text are taken out.
use Rattle.std.specs.Prelude.{◌≡◌, ℕ, ◌<◌, ◌≤◌, List, [], ◌∷◌, length}
use Rattle.zq_names.specs.Texts.{IsBelow}
use Rattle.zq_names.specs.Names.{NameEntry, IsPlaceOf, text_at, removed_at}

-- s lies below t; every text but the root's lies below the root
abbrev pub LiesBelow : List ℕ → List ℕ → Type 0
LiesBelow [] s = 0 < length s
LiesBelow (c ∷ t) s = IsBelow (c ∷ t) s

-- entries that lie below t were taken out, one after the other, until none is left
pub data ClosesBelow : List NameEntry → List ℕ → List NameEntry → Type 0 where
  done : (ns : List NameEntry) (t : List ℕ) → ((k : ℕ) → k < length ns → LiesBelow t (text_at ns k) → ⊥) → ClosesBelow ns t ns
  more : (ns new : List NameEntry) (t : List ℕ) (at : ℕ) → at < length ns → LiesBelow t (text_at ns at) → ClosesBelow (removed_at ns at) t new → ClosesBelow ns t new

-- nothing is left of t but the root
abbrev pub TakesOwn : List NameEntry → List ℕ → List NameEntry → Type 0
TakesOwn ns [] new = new ≡ ns
TakesOwn ns (c ∷ t) new = (at : ℕ) × IsPlaceOf ns (c ∷ t) at × (new ≡ removed_at ns at)

-- all below t were taken out, and then t itself unless it is the root's text
pub record Closes (old : List NameEntry) (t : List ℕ) (new : List NameEntry) : Type 0 where
  pub middle : List NameEntry
  pub below : ClosesBelow old t middle
  pub own : TakesOwn middle t new

-- the places from low on and below high are those of the texts below t, and t stands before them
pub record IsRun (ns : List NameEntry) (t : List ℕ) (place low high : ℕ) : Type 0 where
  pub stands : place < low
  pub text : text_at ns place ≡ t
  pub order : low ≤ high
  pub in_range : high ≤ length ns
  pub inside : (k : ℕ) → low ≤ k → k < high → LiesBelow t (text_at ns k)
  pub before : (k : ℕ) → k < low → LiesBelow t (text_at ns k) → ⊥
  pub after : (k : ℕ) → high ≤ k → k < length ns → LiesBelow t (text_at ns k) → ⊥
