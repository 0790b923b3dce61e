-- Slots that a seat holds for replies that are to be sent.
use Rattle.std.specs.Prelude.{◌≡◌, ℕ, ◌<◌, List, map, Some}
use Rattle.zq_hold.specs.declared.slot.Slot.{Slot}
use Rattle.zq_hold.specs.declared.slot.Mark.TheVariants.{Kept}
use Rattle.zq_hold.specs.Marks.{HasMark}
use Rattle.zq_hold.specs.Seats.{Ended}
use Rattle.zq_hold.specs.Slots.{times}
use Rattle.zq_hold.specs.Owners.{Slotted, owned, owner_at}

-- the places of slots
abbrev pub places : List Slot → List ℕ
places slots = map (λ (s : Slot). s.0) slots

-- the seat holds these slots and no others
abbrev pub AreHeld : List Slot → List ℕ → Type 0
AreHeld slots held = (k : ℕ) → times k held ≡ times k (places slots)

-- the keeper holds the slot that the request owns, and it owns one
pub record OwnsKept (n : ℕ) (m : Slotted) : Type 0 where
  pub some : 0 < owned n m.owners
  pub kept : (k : ℕ) → owner_at m.owners k ≡ Some n → HasMark Kept m.keeper.marks k

-- what was released last: the slots that nobody holds, and how many there is room for
pub record Lasts : Type 0 where
  pub ended : List Ended
  pub most : ℕ
