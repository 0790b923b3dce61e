-- The rule of counted holds: a fact about the words and all views, between any two steps. Each part is a sum over all views, for each slot.
use Rattle.std.specs.Prelude.{◌≡◌, ℕ, ◌+◌, ◌<◌, ◌≤◌, List, [], ◌∷◌, length, slice_index, None}
use mathlib.Core.Option.{some}
use lib.ListN.{get_elem?}
use Rattle.atomic_table.specs.Table.{State}
use Rattle.zq_hold.specs.declared.view.HoldView.{HoldView}
use Rattle.zq_hold.specs.declared.view.Role.{Role}
use Rattle.zq_hold.specs.declared.view.Role.TheVariants.{Keeper, Seat, Pledge, Last, Spent}
use Rattle.zq_hold.specs.Slots.{times, stood, one_slot}

-- a word for each slot, and all views
abbrev pub HoldState : Type 0
HoldState = State (Unit {0}) HoldView

-- 1 for the keeper and for a seat, which may hold slots
abbrev pub live : Role → ℕ
live Keeper = 1
live Seat = 1
live Pledge = 0
live Last = 0
live Spent = 0

-- the sum over all views
abbrev pub total : (HoldView → ℕ) → List HoldView → ℕ
total f [] = 0
total f (v ∷ vs) = f v + total f vs

-- how many hold the slot k
abbrev pub holders : ℕ → List HoldView → ℕ
holders k = total (λ v. times k v.held)

-- how many views stand for the slot k
abbrev pub standing : ℕ → List HoldView → ℕ
standing k = total (λ v. stood k v.stands)

-- how many views show the slot k
abbrev pub showing : ℕ → List HoldView → ℕ
showing k = total (λ v. stood k v.shows)

-- how many the keeper and the seats are
abbrev pub seated : List HoldView → ℕ
seated = total (λ v. live v.role)

-- how often all together released a slot last
abbrev pub endings : List HoldView → ℕ
endings = total (λ v. v.ended)

-- how many views stand for some slot
abbrev pub outstanding : List HoldView → ℕ
outstanding = total (λ v. one_slot v.stands)

-- the rule of n slots, where the keeper is at that place and has that view
pub record IsKeptBy (n : ℕ) (s : HoldState) (keeper : ℕ) (view : HoldView) : Type 0 where
  -- there is a word for each slot
  pub wide : length s.words ≡ n
  -- exactly one view is the keeper's
  pub there : get_elem? s.views keeper ≡ some view
  pub keeps : view.role ≡ Keeper
  pub only : (j : ℕ) (v : HoldView) → get_elem? s.views j ≡ some v → v.role ≡ Keeper → j ≡ keeper
  -- the keeper and a seat hold a slot at most once; a pledge, a `Last` and a spent view hold none
  pub once : (j : ℕ) (v : HoldView) → get_elem? s.views j ≡ some v → (k : ℕ) → times k v.held ≤ live v.role
  -- the number of a slot is how many hold it
  pub number : (k : ℕ) → k < n → slice_index s.words k ≡ holders k s.views
  -- a slot that someone holds is not vacated
  pub vacated : (k : ℕ) → times k view.used ≡ 0 → holders k s.views ≡ 0
  -- a slot that is not vacated is one of the n
  pub within : (k : ℕ) → 0 < times k view.used → k < n
  -- the seats are as many as were made and not joined back, and at most 63 were made
  pub seats : seated s.views + view.joined ≡ 1 + view.made
  pub made : view.made ≤ 63
  -- at most one view stands for a slot; nobody holds that slot, and it is not vacated
  pub stands : (k : ℕ) → standing k s.views ≤ 1
  pub ended : (k : ℕ) → 0 < standing k s.views → (0 < times k view.used) × (holders k s.views ≡ 0)
  -- a slot that is not vacated and that nobody holds has a view that stands for it: who leaves the number 0 has it
  pub owed : (k : ℕ) → 0 < times k view.used → holders k s.views ≡ 0 → 0 < standing k s.views
  -- each time that a slot was released last, the keeper took its `Last` in, or a view stands for it still; the keeper and seats alone count such times
  pub counted : endings s.views ≡ view.vacated + outstanding s.views
  pub idle : (j : ℕ) (v : HoldView) → get_elem? s.views j ≡ some v → live v.role ≡ 0 → v.ended ≡ 0
  -- one view, which is not the keeper's, shows the pledged slot, and none another; the keeper holds the pledged slot, and it is lent
  pub bare : view.shows ≡ None
  pub shown : (k : ℕ) → showing k s.views ≡ stood k view.pledged
  pub pledged : (k : ℕ) → 0 < stood k view.pledged → (0 < times k view.held) × (0 < times k view.lent)
  -- a slot that is neither vacated nor lent is held by the keeper alone, or by nobody
  pub unlent : (k : ℕ) → 0 < times k view.used → times k view.lent ≡ 0 → holders k s.views ≡ times k view.held

-- the rule of n slots
abbrev pub IsKept : ℕ → HoldState → Type 0
IsKept n s = (keeper : ℕ) × (view : HoldView) × IsKeptBy n s keeper view
