-- The keeper's marks, one for each slot.
use Rattle.std.specs.Prelude.{◌≡◌, ◌≢◌, ◌⊎◌, ℕ, ◌<◌, List, length, slice_index_or}
use Rattle.zq_hold.specs.declared.slot.Mark.{Mark}
use Rattle.zq_hold.specs.declared.slot.Mark.TheVariants.{Spare, Kept, Gone, Vacant}
use Rattle.zq_hold.specs.declared.view.HoldView.{HoldView}
use Rattle.zq_hold.specs.Slots.{times}

-- the mark of the slot k
abbrev pub mark_at : List Mark → ℕ → Mark
mark_at marks k = slice_index_or marks k Vacant

-- the slot k is one of these, and has that mark
abbrev pub HasMark : Mark → List Mark → ℕ → Type 0
HasMark m marks k = (k < length marks) × (mark_at marks k ≡ m)

-- no slot has that mark
abbrev pub NoneHas : Mark → List Mark → Type 0
NoneHas m marks = (j : ℕ) → j < length marks → mark_at marks j ≢ m

-- the slot k is the least one with that mark
abbrev pub IsLeast : Mark → List Mark → ℕ → Type 0
IsLeast m marks k = HasMark m marks k × ((j : ℕ) → j < k → mark_at marks j ≢ m)

-- the slot k is the next to be allotted: the least spare one, or the least vacant one where none is spare
abbrev pub IsNext : List Mark → ℕ → Type 0
IsNext marks k = IsLeast Spare marks k ⊎ (NoneHas Spare marks × IsLeast Vacant marks k)

-- every slot is allotted
abbrev pub AllAllotted : List Mark → Type 0
AllAllotted marks = NoneHas Spare marks × NoneHas Vacant marks

-- what a mark says: how often the keeper holds the slot, whether it is in use, and whether it is lent
abbrev pub Marked : Mark → ℕ → ℕ → ℕ → Type 0
Marked Spare held used lent = (held ≡ 1) × (0 < used) × (lent ≡ 0)
Marked Kept held used lent = (held ≡ 1) × (0 < used)
Marked Gone held used lent = (held ≡ 0) × (0 < used)
Marked Vacant held used lent = (held ≡ 0) × (used ≡ 0) × (lent ≡ 0)

-- each mark says what the keeper's view has
abbrev pub AllMarked : List Mark → HoldView → Type 0
AllMarked marks v = (k : ℕ) → k < length marks → Marked (mark_at marks k) (times k v.held) (times k v.used) (times k v.lent)
