-- How the slots stand with the requests that are open.
use Rattle.std.specs.Prelude.{◌≡◌, ℕ, ◌+◌, ◌<◌, ◌≤◌, Bool, true, false, length, Option, Some, None}
use Rattle.std.specs.List.{filter}
use Rattle.zq_hold.specs.declared.slot.Mark.{Mark}
use Rattle.zq_hold.specs.declared.slot.Mark.TheVariants.{Spare, Kept, Gone, Vacant}
use Rattle.zq_hold.specs.Marks.{HasMark}
use Rattle.zq_hold.specs.Slots.{stood, times}
use Rattle.zq_hold.specs.Owners.{Slotted, owned, owner_at}
use Rattle.zq_shared.specs.Stored.{IsOpen, Stored, in_flight, next_request, requests_in, waiting}

-- a gateway beside its calls, and the slots of its requests
pub record Sharing : Type 0 where
  pub stored : Stored
  pub slots : Slotted

-- the slot is not spare
abbrev pub is_used : Mark → Bool
is_used Spare = false
is_used Kept = true
is_used Gone = true
is_used Vacant = true

-- some request owns the slot
abbrev pub HasOwner : Slotted → ℕ → Type 0
HasOwner m k = (n : ℕ) × (owner_at m.owners k ≡ Some n)

-- the request that owns the slot has a reply in flight
abbrev pub IsSending : Stored → Slotted → ℕ → Type 0
IsSending s m k = (n : ℕ) × (owner_at m.owners k ≡ Some n) × (r : ℕ) × (in_flight s n r ≡ true)

-- a slot that the keeper holds for a request has an owner, and one that it released has none with entries pending; owners were asked; each open request owns a slot, but for one that may own none; what is lent has an owner with a reply in flight; and no more slots are used than requests were made
pub record IsNearlyTied (but : Option ℕ) (s : Stored) (m : Slotted) : Type 0 where
  pub kept : (k : ℕ) → HasMark Kept m.keeper.marks k → HasOwner m k
  pub gone : (k n : ℕ) → HasMark Gone m.keeper.marks k → owner_at m.owners k ≡ Some n → waiting s n ≡ 0
  pub asked : (k n : ℕ) → owner_at m.owners k ≡ Some n → n < next_request s
  pub opened : (n : ℕ) → IsOpen s n → 0 < owned n m.owners + stood n but
  pub lent : (k : ℕ) → 0 < times k m.keeper.lent → IsSending s m k
  pub used : length (filter is_used m.keeper.marks) ≤ requests_in s.calls

-- the request that owns a slot which the keeper holds has entries pending
abbrev pub AreWaiting : Stored → Slotted → Type 0
AreWaiting s m = (k n : ℕ) → HasMark Kept m.keeper.marks k → owner_at m.owners k ≡ Some n → 0 < waiting s n

-- the keeper holds the slots of the requests with entries pending and the spare ones, and each open request owns a slot
pub record IsTied (s : Stored) (m : Slotted) : Type 0 where
  pub nearly : IsNearlyTied None s m
  pub waits : AreWaiting s m
