-- Histories of the table, as seen by a seat that acts among others: whatever it does with its own views, who leaves the number of a slot 0 is told.
use Rattle.std.specs.Prelude.{◌≡◌, ℕ, suc, ◌+◌, ◌<◌, ◌≤◌, List, [], ◌∷◌, length, slice_index, None}
use mathlib.Core.Option.{Option, none, some}
use lib.ListN.{get_elem?}
use Rattle.zq_hold.specs.declared.view.HoldView.{HoldView}
use Rattle.zq_hold.specs.declared.view.Role.TheVariants.{Seat}
use Rattle.zq_hold.specs.Slots.{times, one_slot}
use Rattle.zq_hold.specs.Rule.{HoldState, IsKept}
use Rattle.zq_hold.specs.Laws.{IsStep, IsCut, IsJoin, LeavesZero}

-- what may happen between two states, where one has the views at some places, before and after
pub data Move (n : ℕ) (s : HoldState) (places : List ℕ) (s' : HoldState) (places' : List ℕ) : Type 0 where
  -- it makes a step with one of its views
  steps : (i : ℕ) (v w : HoldView) → 0 < times i places → IsStep n s s' i v w → places' ≡ places → Move n s places s' places'
  -- it cuts one of its views, and has both
  cuts : (i : ℕ) (v left right : HoldView) → 0 < times i places → IsCut n s s' i v left right → places' ≡ length s.views ∷ places → Move n s places s' places'
  -- it joins two of its views
  joins : (i j : ℕ) (v w both spent : HoldView) → 0 < times i places → 0 < times j places → IsJoin n s s' i j v w both spent → places' ≡ places → Move n s places s' places'
  -- others do something, which leaves its views as they are
  others : IsKept n s → IsKept n s' → ((j : ℕ) → 0 < times j places → get_elem? s'.views j ≡ get_elem? s.views j) → places' ≡ places → Move n s places s' places'

-- the states of a table one after another, and the places of the views that one has who begins with a seat at the place i, which stands for nothing and counts so much
pub record IsHistory (n : ℕ) (states : ℕ → HoldState) (places : ℕ → List ℕ) (i count : ℕ) : Type 0 where
  pub first : places 0 ≡ i ∷ []
  pub seat : HoldView
  pub mine : get_elem? (states 0).views i ≡ some seat
  pub sits : seat.role ≡ Seat
  pub free : seat.stands ≡ None
  pub counts : seat.ended ≡ count
  pub moves : (m : ℕ) → Move n (states m) (places m) (states (suc m)) (places (suc m))

-- what a view has, if there is one
abbrev pub value_at : (HoldView → ℕ) → Option HoldView → ℕ
value_at f none = 0
value_at f (some v) = f v

-- the sum over the views at those places
abbrev pub sum_at : (HoldView → ℕ) → List HoldView → List ℕ → ℕ
sum_at f views [] = 0
sum_at f views (i ∷ places) = value_at f (get_elem? views i) + sum_at f views places

-- how many of the views at those places stand for a slot
abbrev pub waiting : List HoldView → List ℕ → ℕ
waiting = sum_at (λ v. one_slot v.stands)

-- at any time a seat's count is what it was, and as many more as its views stand for slots
abbrev pub SeatHasCounted : Type 0
SeatHasCounted = (n : ℕ) (states : ℕ → HoldState) (places : ℕ → List ℕ) (i count : ℕ) → IsHistory n states places i count
    → (m : ℕ) (u : HoldView) → get_elem? (states m).views i ≡ some u → u.role ≡ Seat → u.ended ≡ count + waiting (states m).views (places m)

-- if a view of the seat leaves the number of a slot 0, by its step at the time a, then for as long as the number is 0 the seat's count is greater than it was
abbrev pub SeatIsTold : Type 0
SeatIsTold = (n : ℕ) (states : ℕ → HoldState) (places : ℕ → List ℕ) (i count : ℕ) → IsHistory n states places i count
    → (a j k : ℕ) (v w : HoldView) → 0 < times j (places a) → IsStep n (states a) (states (suc a)) j v w → LeavesZero k (states a) (states (suc a))
    → (b : ℕ) → a < b → ((m : ℕ) → a < m → m ≤ b → slice_index (states m).words k ≡ 0)
    → (u : HoldView) → get_elem? (states b).views i ≡ some u → u.role ≡ Seat → count < u.ended
