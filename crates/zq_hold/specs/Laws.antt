-- What follows from the rule alone, for whatever keeps it: who leaves the number of a slot 0 stands for the slot and counts that once, and neither is lost later.
use Rattle.std.specs.Prelude.{◌≡◌, ◌≢◌, ◌⊎◌, ◌↔◌, ℕ, ◌+◌, ◌<◌, ◌≤◌, [], ◌∷◌, ◌++◌, slice_index, slice_set, Some, None}
use mathlib.Core.Option.{some}
use lib.ListN.{get_elem?}
use Rattle.zq_hold.specs.declared.view.HoldView.{HoldView}
use Rattle.zq_hold.specs.declared.view.Role.{Role}
use Rattle.zq_hold.specs.declared.view.Role.TheVariants.{Keeper, Seat, Pledge, Last, Spent}
use Rattle.zq_hold.specs.Slots.{times, stood, one_slot}
use Rattle.zq_hold.specs.Rule.{HoldState, live, standing, IsKept, IsKeptBy}

-- ---- what the table does, from the state s to the state s', both under the rule of n slots

-- a step: the view v at the place i becomes w; words may change
pub record IsStep (n : ℕ) (s s' : HoldState) (i : ℕ) (v w : HoldView) : Type 0 where
  pub mine : get_elem? s.views i ≡ some v
  pub views : s'.views ≡ slice_set s.views i w
  pub before : IsKept n s
  pub after : IsKept n s'

-- a cut: the view v at the place i becomes left, and right is put behind all views
pub record IsCut (n : ℕ) (s s' : HoldState) (i : ℕ) (v left right : HoldView) : Type 0 where
  pub mine : get_elem? s.views i ≡ some v
  pub words : s'.words ≡ s.words
  pub views : s'.views ≡ slice_set s.views i left ++ right ∷ []
  pub before : IsKept n s
  pub after : IsKept n s'

-- a join: the views v and w at the places i and j become both and spent
pub record IsJoin (n : ℕ) (s s' : HoldState) (i j : ℕ) (v w both spent : HoldView) : Type 0 where
  pub mine : get_elem? s.views i ≡ some v
  pub other : get_elem? s.views j ≡ some w
  pub apart : j ≢ i
  pub words : s'.words ≡ s.words
  pub views : s'.views ≡ slice_set (slice_set s.views i both) j spent
  pub before : IsKept n s
  pub after : IsKept n s'

-- an entry: the view w is put behind all views; words may change
pub record IsEntry (n : ℕ) (s s' : HoldState) (w : HoldView) : Type 0 where
  pub views : s'.views ≡ s.views ++ w ∷ []
  pub before : IsKept n s
  pub after : IsKept n s'

-- the number of the slot k was not 0, and is
abbrev pub LeavesZero : ℕ → HoldState → HoldState → Type 0
LeavesZero k s s' = (0 < slice_index s.words k) × (slice_index s'.words k ≡ 0)

-- the slot k falls to the one with the view v: its number is 0, and was not, or v stood for it
abbrev pub FallsTo : HoldView → ℕ → HoldState → HoldState → Type 0
FallsTo v k s s' = (slice_index s'.words k ≡ 0) × ((0 < slice_index s.words k) ⊎ (v.stands ≡ Some k))

-- the slot k is not vacated
abbrev pub InUse : ℕ → HoldState → Type 0
InUse k s = (j : ℕ) (u : HoldView) → get_elem? s.views j ≡ some u → u.role ≡ Keeper → 0 < times k u.used

-- ---- seats

-- a seat that stood for nothing and leaves the number of a slot 0 stands for the slot, and counts one more
abbrev pub SeatLeavesZero : Type 0
SeatLeavesZero = (n : ℕ) (s s' : HoldState) (i k : ℕ) (v w : HoldView) → IsStep n s s' i v w → v.role ≡ Seat → v.stands ≡ None → LeavesZero k s s' → (w.stands ≡ Some k) × (w.ended ≡ v.ended + 1)

-- a seat that stood for nothing and leaves no number 0 stands for nothing, and counts as before
abbrev pub SeatLeavesNone : Type 0
SeatLeavesNone = (n : ℕ) (s s' : HoldState) (i : ℕ) (v w : HoldView) → IsStep n s s' i v w → v.role ≡ Seat → v.stands ≡ None → ((k : ℕ) → ¬ LeavesZero k s s') → (w.stands ≡ None) × (w.ended ≡ v.ended)

-- whatever a seat stands for: it stays a seat, its count goes with what it stands for, and it stands for exactly the slot that falls to it
abbrev pub SeatSteps : Type 0
SeatSteps = (n : ℕ) (s s' : HoldState) (i : ℕ) (v w : HoldView) → IsStep n s s' i v w → v.role ≡ Seat
    → (w.role ≡ Seat) × (w.ended + one_slot v.stands ≡ v.ended + one_slot w.stands) × ((k : ℕ) → (w.stands ≡ Some k) ↔ FallsTo v k s s')

-- one is a seat that counts so much, and the other is neither seat nor keeper, and counts nothing
abbrev pub OneSeat : HoldView → HoldView → ℕ → Type 0
OneSeat one other count = (one.role ≡ Seat) × (one.ended ≡ count) × (live other.role ≡ 0) × (other.ended ≡ 0)

-- a cut of a seat leaves one seat, with the whole count, and what it stood for one of the two stands for
abbrev pub SeatCut : Type 0
SeatCut = (n : ℕ) (s s' : HoldState) (i : ℕ) (v left right : HoldView) → IsCut n s s' i v left right → v.role ≡ Seat
    → (OneSeat left right v.ended ⊎ OneSeat right left v.ended) × ((k : ℕ) → stood k left.stands + stood k right.stands ≡ stood k v.stands)

-- so does a join of a seat and a view that is neither seat nor keeper
abbrev pub SeatJoin : Type 0
SeatJoin = (n : ℕ) (s s' : HoldState) (i j : ℕ) (v w both spent : HoldView) → IsJoin n s s' i j v w both spent → v.role ≡ Seat → live w.role ≡ 0
    → (OneSeat both spent v.ended ⊎ OneSeat spent both v.ended) × ((k : ℕ) → stood k both.stands + stood k spent.stands ≡ stood k v.stands + stood k w.stands)

-- a view that enters is neither seat nor keeper, counts nothing and stands for nothing, and leaves no number 0
abbrev pub EntryIsEmpty : Type 0
EntryIsEmpty = (n : ℕ) (s s' : HoldState) (w : HoldView) → IsEntry n s s' w → (live w.role ≡ 0) × (w.ended ≡ 0) × (w.stands ≡ None) × ((k : ℕ) → ¬ LeavesZero k s s')

-- ---- the keeper

-- the keeper that stood for nothing, leaves the number of a slot 0 and does not vacate the slot at once stands for it, and counts one more, and as many more as it vacated
abbrev pub KeeperLeavesZero : Type 0
KeeperLeavesZero = (n : ℕ) (s s' : HoldState) (i k : ℕ) (v w : HoldView) → IsStep n s s' i v w → v.role ≡ Keeper → v.stands ≡ None → LeavesZero k s s' → 0 < times k w.used
    → (w.stands ≡ Some k) × (w.ended + v.vacated ≡ v.ended + 1 + w.vacated)

-- the keeper that stood for nothing, leaves no number 0 and puts no slot to use whose number is 0 stands for nothing, and counts as many more as it vacated
abbrev pub KeeperLeavesNone : Type 0
KeeperLeavesNone = (n : ℕ) (s s' : HoldState) (i : ℕ) (v w : HoldView) → IsStep n s s' i v w → v.role ≡ Keeper → v.stands ≡ None → ((k : ℕ) → ¬ LeavesZero k s s') → ((k : ℕ) → 0 < times k w.used → (0 < times k v.used) ⊎ (0 < slice_index s'.words k))
    → (w.stands ≡ None) × (w.ended + v.vacated ≡ v.ended + w.vacated)

-- whatever the keeper stands for: it stays the keeper, its count goes with what it stands for and what it vacated, and of the slots that are not vacated, before and after, it stands for exactly the one that falls to it
abbrev pub KeeperSteps : Type 0
KeeperSteps = (n : ℕ) (s s' : HoldState) (i : ℕ) (v w : HoldView) → IsStep n s s' i v w → v.role ≡ Keeper
    → (w.role ≡ Keeper) × (w.ended + one_slot v.stands + v.vacated ≡ v.ended + one_slot w.stands + w.vacated) × ((k : ℕ) → 0 < times k v.used → 0 < times k w.used → (w.stands ≡ Some k) ↔ FallsTo v k s s')

-- ---- the keeper and seats alike

-- of the keeper how often it vacated a slot, of others 0
abbrev pub cleared : Role → ℕ → ℕ
cleared Keeper vacated = vacated
cleared Seat vacated = 0
cleared Pledge vacated = 0
cleared Last vacated = 0
cleared Spent vacated = 0

-- what a view has to show for its count: 1 where it stands for a slot, and how often it vacated one
abbrev pub settled : HoldView → ℕ
settled v = one_slot v.stands + cleared v.role v.vacated

-- by a step a count changes as what there is to show for it does
abbrev pub StepSettles : Type 0
StepSettles = (n : ℕ) (s s' : HoldState) (i : ℕ) (v w : HoldView) → IsStep n s s' i v w → w.ended + settled v ≡ v.ended + settled w

-- so do the counts by a cut
abbrev pub CutSettles : Type 0
CutSettles = (n : ℕ) (s s' : HoldState) (i : ℕ) (v left right : HoldView) → IsCut n s s' i v left right → left.ended + right.ended + settled v ≡ v.ended + settled left + settled right

-- so do the counts by a join
abbrev pub JoinSettles : Type 0
JoinSettles = (n : ℕ) (s s' : HoldState) (i j : ℕ) (v w both spent : HoldView) → IsJoin n s s' i j v w both spent → both.ended + spent.ended + settled v + settled w ≡ v.ended + w.ended + settled both + settled spent

-- after a step whoever's it is stands for the slot that falls to it, if that is not vacated
abbrev pub StepStands : Type 0
StepStands = (n : ℕ) (s s' : HoldState) (i k : ℕ) (v w : HoldView) → IsStep n s s' i v w → InUse k s' → FallsTo v k s s' → w.stands ≡ Some k

-- a cut loses no view that stands for a slot, if that is not vacated
abbrev pub CutStands : Type 0
CutStands = (n : ℕ) (s s' : HoldState) (i k : ℕ) (v left right : HoldView) → IsCut n s s' i v left right → InUse k s' → stood k v.stands ≤ stood k left.stands + stood k right.stands

-- nor does a join
abbrev pub JoinStands : Type 0
JoinStands = (n : ℕ) (s s' : HoldState) (i j k : ℕ) (v w both spent : HoldView) → IsJoin n s s' i j v w both spent → InUse k s' → stood k v.stands + stood k w.stands ≤ stood k both.stands + stood k spent.stands

-- ---- slots that are not lent

-- exactly one view stands for a slot that is in use, not lent, and not held by the keeper
abbrev pub UnlentStands : Type 0
UnlentStands = (n : ℕ) (s : HoldState) (keeper : ℕ) (view : HoldView) → IsKeptBy n s keeper view → (k : ℕ) → 0 < times k view.used → times k view.lent ≡ 0 → times k view.held ≡ 0 → standing k s.views ≡ 1
