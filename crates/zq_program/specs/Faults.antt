-- Counts of faults of links, before what was sent over them and behind it.
use Rattle.std.specs.Prelude.{◌≡◌, ℕ, ◌<◌, ◌≤◌, Bool, true, false, List, length, get_or}
use Rattle.zq_io.specs.Streams.{Rose}

-- a link whose count of faults never falls: it rose where something was not sent, and stands where all was
pub record HasFaults (sent : Bool) (before now : ℕ) : Type 0 where
  pub later : before ≤ now
  pub quiet : sent ≡ true → now ≡ before
  pub rose : sent ≡ false → Rose before now

-- the count of faults of one of the links rose
abbrev pub SomeRose : List ℕ → List ℕ → Type 0
SomeRose before now = (k : ℕ) × (k < length before) × Rose (get_or before k 0) (get_or now k 0)

-- links whose counts of faults did not fall
pub record NeverFell (before now : List ℕ) : Type 0 where
  pub wide : length now ≡ length before
  pub later : (k : ℕ) → get_or before k 0 ≤ get_or now k 0

-- links whose counts of faults did not fall: one of them rose where something was not sent, and all stand where all was
pub record HaveFaults (sent : Bool) (before now : List ℕ) : Type 0 where
  pub wide : length now ≡ length before
  pub later : (k : ℕ) → get_or before k 0 ≤ get_or now k 0
  pub quiet : sent ≡ true → now ≡ before
  pub rose : sent ≡ false → SomeRose before now
