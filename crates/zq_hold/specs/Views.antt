-- What views are at first, what a step makes of them, and how they are cut.
use Rattle.std.specs.Prelude.{ℕ, ◌+◌, eqb, cond, [], ◌∷◌, Option, Some, None}
use Rattle.zq_hold.specs.declared.view.HoldView.{HoldView}
use Rattle.zq_hold.specs.declared.view.Role.{Role}
use Rattle.zq_hold.specs.declared.view.Role.TheVariants.{Keeper, Seat, Pledge, Last, Spent}
use Rattle.zq_hold.specs.Slots.{weight, below, without}

-- a view of that role that holds nothing, shows nothing and stands for nothing
abbrev pub plain_view : Role → HoldView
plain_view role = record { role = role; held = []; shows = None; stands = None; ended = 0; made = 0; joined = 0; vacated = 0; used = []; lent = []; pledged = None }

-- the keeper of n slots at first: it holds each, and none is vacated or lent
abbrev pub first_keeper : ℕ → HoldView
first_keeper n = record { role = Keeper; held = below n; shows = None; stands = None; ended = 0; made = 0; joined = 0; vacated = 0; used = below n; lent = []; pledged = None }

-- a view that was joined to another
abbrev pub nobody : HoldView
nobody = plain_view Spent

-- a seat that was just made
abbrev pub new_seat : HoldView
new_seat = plain_view Seat

-- a pledge of that slot
abbrev pub showing_only : Option ℕ → HoldView
showing_only o = record (plain_view Pledge) { shows = o }

-- the view of a `Last` of that slot
abbrev pub last_of : Option ℕ → HoldView
last_of o = record (plain_view Last) { stands = o }

-- a seat or the keeper, with the slot k
abbrev pub gained : HoldView → ℕ → HoldView
gained v k = record v { held = k ∷ v.held }

-- a seat or the keeper, without the slot k, of which it found that many holders; if it was the last one, it stands for the slot, and counts it
abbrev pub released : HoldView → ℕ → ℕ → HoldView
released v k found = record v { held = without k v.held; ended = v.ended + weight (eqb found 1); stands = cond (eqb found 1) (Some k) None }

-- the keeper, with the slot k, which was vacated and is not any more
abbrev pub opened : HoldView → ℕ → HoldView
opened v k = record v { held = k ∷ v.held; used = k ∷ v.used }

-- the keeper, once it vacated the slot k
abbrev pub closed : HoldView → ℕ → HoldView
closed v k = record v { stands = None; vacated = v.vacated + 1; used = without k v.used; lent = without k v.lent }

-- the keeper, while it pledges the slot k
abbrev pub pledging : HoldView → ℕ → HoldView
pledging v k = record v { lent = k ∷ v.lent; pledged = Some k }

-- the keeper, once it lent the slot k
abbrev pub lends : HoldView → ℕ → HoldView
lends v k = record v { lent = k ∷ v.lent }

-- the keeper, once it made a seat
abbrev pub made_one : HoldView → HoldView
made_one v = record v { made = v.made + 1 }

-- the keeper, once a seat was joined back that let slots go last so often
abbrev pub joined_one : HoldView → ℕ → HoldView
joined_one v ended = record v { ended = v.ended + ended; joined = v.joined + 1 }
