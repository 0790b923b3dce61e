-- When a fault may be answered, and what a transfer does to known bytes.
use Rattle.std.specs.Prelude.{◌≡◌, ℕ, ◌+◌, ◌-◌, ◌^◌, ◌<◌, ◌≤◌, min, OnErr, OnOk, Result, Ok, Err, List, drop, length, take, Option, Some, None, Bool, ◌==◌, ◌⊎◌}
use Rattle.std.specs.List.{list_any}
use Rattle.std.specs.Io.KnownBytes.{Appends}

-- the count is greater than before, or stands at its end
abbrev pub Rose : ℕ → ℕ → Type 0
Rose before now = (before < now) ⊎ (now ≡ 2 ^ 64 - 1)

-- a fault is answered only where the count rose, and nothing else raises it
pub record HasCause {T E : Type 0} (before now : ℕ) (result : Result T E) : Type 0 where
  pub later : before ≤ now
  pub failed : OnErr result (Rose before now)
  pub quiet : OnOk result (now ≡ before)

-- the call is one of those that fail
abbrev pub is_listed : List ℕ → ℕ → Bool
is_listed fails call = list_any (λ c. c == call) fails

-- how many bytes move: at most a piece, and no more than either side has
abbrev pub moved : ℕ → ℕ → ℕ → ℕ
moved piece one other = min piece (min one other)

-- more bytes than the limit are known to be left
abbrev pub IsLonger : ℕ → Option (List ℕ) → Type 0
IsLonger limit None = Unit {0}
IsLonger limit (Some xs) = limit < length xs

-- a front of the piece was taken, and not the whole of it
abbrev pub AppendsFront : Option (List ℕ) → Option (List ℕ) → List ℕ → Type 0
AppendsFront old new piece = (n : ℕ) × (n < length piece) × Appends old new (take n piece)

-- how many bytes were taken, if there was no fault
abbrev pub count_of : {E : Type 0} → Result ℕ E → Option ℕ
count_of (Ok n) = Some n
count_of (Err e) = None

-- writes to a sink, one after another, each of which is offered all of the piece that is left: so many bytes are taken, and the sink is so then
pub data Offers {S : Type 0} (writes : S → List ℕ → Option ℕ → S → Type 0) (piece : List ℕ) (first : S) : ℕ → S → Type 0 where
  none : Offers writes piece first 0 first
  more : (at n : ℕ) (s t : S) → Offers writes piece first at s → writes s (drop at piece) (Some n) t → Offers writes piece first (at + n) t

-- up to a write that fails
abbrev pub OffersUpTo : {S : Type 0} → (S → List ℕ → Option ℕ → S → Type 0) → List ℕ → S → S → Type 0
OffersUpTo {S} writes piece first last = (at : ℕ) × (s : S) × Offers writes piece first at s × writes s (drop at piece) None last
