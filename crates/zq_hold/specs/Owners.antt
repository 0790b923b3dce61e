-- Which request owns a slot.
use Rattle.std.specs.Prelude.{◌≡◌, ℕ, ◌+◌, ◌<◌, ◌≤◌, List, [], ◌∷◌, length, slice_index_or, slice_set, Option, None}
use Rattle.zq_hold.specs.declared.slot.Mark.{Mark}
use Rattle.zq_hold.specs.declared.slot.Mark.TheVariants.{Spare, Kept, Gone, Vacant}
use Rattle.zq_hold.specs.Marks.{mark_at}
use Rattle.zq_hold.specs.Seats.{Keeping}
use Rattle.zq_hold.specs.Slots.{stood}

-- the request that owns the slot k, if one does
abbrev pub owner_at : List (Option ℕ) → ℕ → Option ℕ
owner_at owners k = slice_index_or owners k None

-- how many slots the request n owns
abbrev pub owned : ℕ → List (Option ℕ) → ℕ
owned n [] = 0
owned n (o ∷ os) = stood n o + owned n os

-- the keeper of the slots, and the owner of each
pub record Slotted : Type 0 where
  pub keeper : Keeping
  pub owners : List (Option ℕ)

-- a slot that is not allotted has no owner
abbrev pub MayOwn : Mark → Option ℕ → Type 0
MayOwn Spare o = o ≡ None
MayOwn Vacant o = o ≡ None
MayOwn Kept o = Unit {0}
MayOwn Gone o = Unit {0}

-- each of at most 1024 slots has a mark, and an owner or none; only allotted slots have one, and no request owns two
pub record IsSlotted (marks : List Mark) (owners : List (Option ℕ)) : Type 0 where
  pub wide : length owners ≡ length marks
  pub few : length marks ≤ 1024
  pub each : (k : ℕ) → k < length marks → MayOwn (mark_at marks k) (owner_at owners k)
  pub once : (n : ℕ) → owned n owners ≤ 1

-- the slot has that mark
abbrev pub with_mark : Slotted → ℕ → Mark → Slotted
with_mark s k m = record s { keeper = record s.keeper { marks = slice_set s.keeper.marks k m } }

-- the slot has that owner
abbrev pub with_owner : Slotted → ℕ → Option ℕ → Slotted
with_owner s k o = record s { owners = slice_set s.owners k o }
