-- A seat's steps on a slot's word keep the rule.
use Rattle.std.proofs.Common.{◌≡◌, ◌≢◌, ◌⊎◌, ℕ, ◌+◌, ◌-◌, ◌%◌, ◌^◌, ◌<◌, ◌≤◌, Bool, true, false, eqb, cond, List, length, set, get_or, sym, refl, ap, ◌∙◌, subst, inl, inr, ⊎_elim, eq-eqb, ne_eqb, arith, Some, None, length-set, get_or-set_same, get_or-set_other}
use mathlib.Core.Option.{some, none, some-injective}
use mathlib.Core.Logic.{dite}
use native.Mathlib.Decide.{ℕ_discrete}
use lib.ListN.{get_elem?}
use Rattle.atomic_table.specs.Table.{step, keeps, Allows}
use lib.Seq.{set-get_or}
use Rattle.atomic_table.proofs.Lists.{at_set, set_else, set_again}
use Rattle.zq_hold.specs.declared.view.HoldView.{HoldView}
use Rattle.zq_hold.specs.declared.view.Role.TheVariants.{Keeper, Seat}
use Rattle.zq_hold.specs.Slots.{weight, times, stood, one_slot}
use Rattle.zq_hold.specs.Views.{gained, released}
use Rattle.zq_hold.specs.Rule.{HoldState, live, holders, standing, showing, seated, endings, outstanding, IsKeptBy, IsKept}
use Rattle.zq_hold.specs.Steps.{Mine, Gains, Releases, SeesEnd}
use Rattle.zq_hold.proofs.Totals.{total_set, total_one, total_two, total_le, weight_same, weight_one, weight_other, times_without_same, times_without_other}

-- at most 64 seats hold a slot
pub few : (n : ℕ) (s : HoldState) (keeper : ℕ) (view : HoldView) (r : IsKeptBy n s keeper view) (k : ℕ) → holders k s.views ≤ 64
few n s keeper view r k = let a = total_le (λ v. times k v.held) (λ v. live v.role) s.views (λ j v e. r.once j v e k) in let b = r.seats in let c = r.made in omega arith

-- the only keeper is the keeper
pub keeper_is : (n : ℕ) (s : HoldState) (keeper : ℕ) (view : HoldView) (r : IsKeptBy n s keeper view) (id : ℕ) (v : HoldView) → get_elem? s.views id ≡ some v → v.role ≡ Keeper → (id ≡ keeper) × (v ≡ view)
keeper_is n s keeper view r id v at is = let same = r.only id v at is in (same, some-injective v view (sym at ∙ (ap (get_elem? s.views) same ∙ r.there)))

pub apart : (n : ℕ) (s : HoldState) (keeper : ℕ) (view : HoldView) (r : IsKeptBy n s keeper view) (id : ℕ) (v : HoldView) → get_elem? s.views id ≡ some v → v.role ≢ Keeper → keeper ≢ id
apart n s keeper view r id v at not same = not (ap (λ (w : HoldView). w.role) (some-injective v view (sym at ∙ (ap (get_elem? s.views) (sym same) ∙ r.there))) ∙ r.keeps)

-- what holds of each view, after one view is changed
pub each_set : (P : ℕ → HoldView → Type 0) (l : List HoldView) (i : ℕ) (w : HoldView) → P i w → ((j : ℕ) (v : HoldView) → j ≢ i → get_elem? l j ≡ some v → P j v) → (j : ℕ) (v : HoldView) → get_elem? (set l i w) j ≡ some v → P j v
each_set P l i w mine others j v e = ⊎_elim (λ (t : (j ≡ i) × (w ≡ v)). subst (λ (x : ℕ × HoldView). P x.0 x.1) (λ c. (sym t.0 c, t.1 c)) mine) (λ (t : (j ≢ i) × (get_elem? l j ≡ some v)). others j v t.0 t.1) (at_set l i j w v e)

-- the sums after one view is changed
module _ (n : ℕ) (s : HoldState) (keeper : ℕ) (view : HoldView) (r : IsKeptBy n s keeper view) (id : ℕ) (v w : HoldView) (at : get_elem? s.views id ≡ some v) where
  pub hold_set : (k : ℕ) → holders k (set s.views id w) + times k v.held ≡ holders k s.views + times k w.held
  hold_set k = total_set (λ u. times k u.held) s.views id v w at

  pub stand_set : (k : ℕ) → standing k (set s.views id w) + stood k v.stands ≡ standing k s.views + stood k w.stands
  stand_set k = total_set (λ u. stood k u.stands) s.views id v w at

  pub show_set : (k : ℕ) → showing k (set s.views id w) + stood k v.shows ≡ showing k s.views + stood k w.shows
  show_set k = total_set (λ u. stood k u.shows) s.views id v w at

  pub seat_set : seated (set s.views id w) + live v.role ≡ seated s.views + live w.role
  seat_set = total_set (λ u. live u.role) s.views id v w at

  pub end_set : endings (set s.views id w) + v.ended ≡ endings s.views + w.ended
  end_set = total_set (λ u. u.ended) s.views id v w at

  pub wait_set : outstanding (set s.views id w) + one_slot v.stands ≡ outstanding s.views + one_slot w.stands
  wait_set = total_set (λ u. one_slot u.stands) s.views id v w at

-- a seat's step: the premises are the rule's parts at each slot, as omega proves them
pub seat_steps : (n : ℕ) (s : HoldState) (keeper : ℕ) (view : HoldView) (r : IsKeptBy n s keeper view) (id : ℕ) (v w : HoldView) (words : List ℕ) → get_elem? s.views id ≡ some v → v.role ≡ Seat → w.role ≡ Seat
    → length words ≡ n → ((k : ℕ) → times k w.held ≤ 1)
    → ((k : ℕ) → k < n → get_or words k 0 ≡ holders k (set s.views id w))
    → ((k : ℕ) → times k view.used ≡ 0 → holders k (set s.views id w) ≡ 0)
    → ((k : ℕ) → standing k (set s.views id w) ≤ 1)
    → ((k : ℕ) → 0 < standing k (set s.views id w) → (0 < times k view.used) × (holders k (set s.views id w) ≡ 0))
    → ((k : ℕ) → 0 < times k view.used → holders k (set s.views id w) ≡ 0 → 0 < standing k (set s.views id w))
    → w.ended + one_slot v.stands ≡ v.ended + one_slot w.stands
    → ((k : ℕ) → showing k (set s.views id w) ≡ stood k view.pledged)
    → ((k : ℕ) → 0 < times k view.used → times k view.lent ≡ 0 → holders k (set s.views id w) ≡ times k view.held)
    → IsKeptBy n record { words = words; homes = s.homes; views = set s.views id w } keeper view
seat_steps n s keeper view r id v w words at sits sits' wide once number vacated stands ended owed counts shown unlent =
    let not : v.role ≢ Keeper = λ e. absurd (cc) in
    let other = apart n s keeper view r id v at not in
    let seats = seat_set n s keeper view r id v w at in
    let one : live v.role ≡ 1 = ap live sits in
    let one' : live w.role ≡ 1 = ap live sits' in
    let ends = end_set n s keeper view r id v w at in
    let waits = wait_set n s keeper view r id v w at in
    let sum = r.counted in
    let before = r.seats in record {
      wide = wide;
      there = set_else s.views id keeper w other ∙ r.there;
      keeps = r.keeps;
      only = each_set (λ j u. u.role ≡ Keeper → j ≡ keeper) s.views id w (λ e. absurd (cc)) (λ j u _ e. r.only j u e);
      once = each_set (λ j u. (k : ℕ) → times k u.held ≤ live u.role) s.views id w (λ k. let h = once k in omega arith) (λ j u _ e. r.once j u e);
      number = number;
      vacated = vacated;
      within = r.within;
      seats = omega arith;
      made = r.made;
      stands = stands;
      ended = ended;
      owed = owed;
      counted = omega arith;
      idle = each_set (λ j u. live u.role ≡ 0 → u.ended ≡ 0) s.views id w (λ dead. absurd (omega arith)) (λ j u _ e. r.idle j u e);
      bare = r.bare;
      shown = shown;
      pledged = r.pledged;
      unlent = unlent;
    }

pub keeper_holds : (n : ℕ) (s : HoldState) (keeper : ℕ) (view : HoldView) (r : IsKeptBy n s keeper view) (k : ℕ) → times k view.held ≤ holders k s.views
keeper_holds n s keeper view r k = total_one (λ u. times k u.held) s.views keeper view r.there

-- a slot that a view shows is the keeper's pledge
pub is_pledged : (n : ℕ) (s : HoldState) (keeper : ℕ) (view : HoldView) (r : IsKeptBy n s keeper view) (id : ℕ) (v : HoldView) (k : ℕ) → get_elem? s.views id ≡ some v → v.shows ≡ Some k → (0 < times k view.held) × (0 < times k view.lent) × (0 < times k view.used) × (0 < holders k s.views)
is_pledged n s keeper view r id v k at shows =
    let one : stood k v.shows ≡ 1 = ap (stood k) shows ∙ weight_same k in
    let up = total_one (λ u. stood k u.shows) s.views id v at in
    let is = r.shown k in
    let p = r.pledged k (omega arith) in
    let mine = keeper_holds n s keeper view r k in
    let used : 0 < times k view.used = dite (ℕ_discrete (times k view.used) 0) (λ (e : times k view.used ≡ 0). let z = r.vacated k e in let a = p.0 in absurd (omega arith)) (λ (ne : times k view.used ≢ 0). omega arith) in
    (p.0, p.1, used, (let a = p.0 in omega arith))

pub hold_allowed : (n slots id : ℕ) (me : Mine) (k : ℕ) → k < n → me.0.role ≡ Seat → me.0.shows ≡ Some k → times k me.0.held ≡ 0
    → Allows (IsKept n) slots id me k (λ x. (x + 1) % 2 ^ 64) (Gains (step slots k 1 0 none) me)
hold_allowed n slots id me k inside sits shows free s q _ at small =
    let keeper : ℕ = q.0 in
    let view : HoldView = q.1 in
    let r = q.2 in
    let v = me.0 in
    let w = gained v k in
    let x : ℕ = get_or s.words k 0 in
    let next : ℕ = (x + 1) % 2 ^ 64 in
    let p = is_pledged n s keeper view r id v k at shows in
    let p1 = p.1 in
    let p2 = p.2 in
    let p3 = p.3 in
    let most = few n s keeper view r k in
    let is : x ≡ holders k s.views = r.number k inside in
    let up : next ≡ x + 1 = omega arith in
    let sum : (j : ℕ) → holders j (set s.views id w) + times j v.held ≡ holders j s.views + (weight (eqb k j) + times j v.held) = hold_set n s keeper view r id v w at in
    let mine : (j : ℕ) → times j v.held ≤ 1 = λ j. let a = r.once id v at j in let b : live v.role ≡ 1 = ap live sits in omega arith in
    let wide = r.wide in
    let same : (j : ℕ) → standing j (set s.views id w) ≡ standing j s.views = λ j. let a = stand_set n s keeper view r id v w at j in omega arith in (
      w,
      keeps,
      tt,
      (
        keeper,
        view,
        seat_steps n s keeper view r id v w (set s.words k next) at sits sits (length-set s.words k next ∙ wide)
            (λ j. dite (ℕ_discrete k j)
            (λ (e : k ≡ j). subst (λ (i : ℕ). times i w.held ≤ 1) e (let a = weight_same k in omega arith))
            (λ (ne : k ≢ j). let a = weight_other k j ne in let b = mine j in omega arith))
            (λ j h. dite (ℕ_discrete k j)
            (λ (e : k ≡ j). subst (λ (i : ℕ). get_or (set s.words k next) i 0 ≡ holders i (set s.views id w)) e
            (let a = weight_same k in let b = sum k in get_or-set_same s.words k next 0 (omega arith) ∙ omega arith))
            (λ (ne : k ≢ j). let a = weight_other k j ne in let b = sum j in get_or-set_other s.words k j next 0 (λ (e : j ≡ k). ne (sym e)) ∙ (r.number j h ∙ omega arith)))
            (λ j none_used. dite (ℕ_discrete k j)
            (λ (e : k ≡ j). absurd (let t : 0 < times j view.used = subst (λ (i : ℕ). 0 < times i view.used) e p2 in omega arith))
            (λ (ne : k ≢ j). let a = weight_other k j ne in let b = sum j in let c = r.vacated j none_used in omega arith))
            (λ j. let a = same j in let b = r.stands j in omega arith)
            (λ j h. let a = same j in let z = r.ended j (omega arith) in dite (ℕ_discrete k j)
            (λ (e : k ≡ j). absurd (let t : 0 < holders j s.views = subst (λ (i : ℕ). 0 < holders i s.views) e p3 in let u = z.1 in omega arith))
            (λ (ne : k ≢ j). let a = weight_other k j ne in let b = sum j in let c = z.1 in (z.0, omega arith)))
            (λ j used none_hold. let a = same j in let b = sum j in let z = r.owed j used (omega arith) in omega arith)
            refl
            (λ j. let a = show_set n s keeper view r id v w at j in let b = r.shown j in omega arith)
            (λ j used out. dite (ℕ_discrete k j)
            (λ (e : k ≡ j). absurd (let t : 0 < times j view.lent = subst (λ (i : ℕ). 0 < times i view.lent) e p1 in omega arith))
            (λ (ne : k ≢ j). let a = weight_other k j ne in let b = sum j in let c = r.unlent j used out in omega arith)),
      ),
      refl,
    )

-- a look by a seat that stands for the slot: nobody holds it
pub look_allowed : (n slots id : ℕ) (me : Mine) (k : ℕ) → me.0.stands ≡ Some k → Allows (IsKept n) slots id me k (λ x. x) (SeesEnd (step slots k 0 0 none) me)
look_allowed n slots id me k ends s q _ at small =
    let v = me.0 in
    let r = q.2 in
    let one : stood k v.stands ≡ 1 = ap (stood k) ends ∙ weight_same k in
    let up = total_one (λ u. stood k u.stands) s.views id v at in
    let held = total_one (λ u. times k u.held) s.views id v at in
    let over = r.ended k (omega arith) in
    let none_held = over.1 in
    let words_same = set-get_or s.words k 0 in
    let views_same = set_again s.views id v at in (
      v,
      keeps,
      tt,
      subst (λ (z : List ℕ × List HoldView). IsKept n record { words = z.0; homes = s.homes; views = z.1 }) (λ i. (sym words_same i, sym views_same i)) q,
      (refl, omega arith),
    )

-- what a release at the number x leaves the view standing for
pub stood_after : (j k x : ℕ) → ((x ≡ 1) × (stood j (cond (eqb x 1) (Some k) None) ≡ weight (eqb k j))) ⊎ ((x ≢ 1) × (stood j (cond (eqb x 1) (Some k) None) ≡ 0))
stood_after j k x = dite (ℕ_discrete x 1)
    (λ (e : x ≡ 1). inl (e, ap (λ (b : Bool). stood j (cond b (Some k) None)) (eq-eqb x 1 e)))
    (λ (ne : x ≢ 1). inr (ne, ap (λ (b : Bool). stood j (cond b (Some k) None)) (ne_eqb x 1 ne)))

-- a release at the number x counts once where it leaves the view standing
pub counts_after : (k x : ℕ) → one_slot (cond (eqb x 1) (Some k) None) ≡ weight (eqb x 1)
counts_after k x = slot_if k (eqb x 1)
  where
    slot_if : (k : ℕ) (b : Bool) → one_slot (cond b (Some k) None) ≡ weight b
    slot_if k true = refl
    slot_if k false = refl

pub release_allowed : (n slots id : ℕ) (me : Mine) (k : ℕ) → k < n → me.0.role ≡ Seat → me.0.stands ≡ None → 0 < times k me.0.held
    → Allows (IsKept n) slots id me k (λ x. (x + (2 ^ 64 - 1)) % 2 ^ 64) (Releases (step slots k 1 0 none) me)
release_allowed n slots id me k inside sits free has s q _ at small =
    let keeper : ℕ = q.0 in
    let view : HoldView = q.1 in
    let r = q.2 in
    let v = me.0 in
    let x : ℕ = get_or s.words k 0 in
    let w = released v k x in
    let next : ℕ = (x + (2 ^ 64 - 1)) % 2 ^ 64 in
    let most = few n s keeper view r k in
    let is : x ≡ holders k s.views = r.number k inside in
    let in_all = total_one (λ u. times k u.held) s.views id v at in
    let mine : (j : ℕ) → times j v.held ≤ 1 = λ j. let a = r.once id v at j in let b : live v.role ≡ 1 = ap live sits in omega arith in
    let once : times k v.held ≡ 1 = let a = mine k in omega arith in
    let less : next + 1 ≡ x = omega arith in
    let here : times k w.held ≡ 0 = times_without_same k v.held in
    let there : (j : ℕ) → k ≢ j → times j w.held ≡ times j v.held = λ j ne. times_without_other j k v.held (λ (e : j ≡ k). ne (sym e)) in
    let sum : (j : ℕ) → holders j (set s.views id w) + times j v.held ≡ holders j s.views + times j w.held = hold_set n s keeper view r id v w at in
    let none_before : (j : ℕ) → stood j v.stands ≡ 0 = λ j. ap (stood j) free in
    let stand : (j : ℕ) → standing j (set s.views id w) + stood j v.stands ≡ standing j s.views + stood j w.stands = stand_set n s keeper view r id v w at in
    let wide = r.wide in
    let used : 0 < times k view.used = dite (ℕ_discrete (times k view.used) 0) (λ (e : times k view.used ≡ 0). let z = r.vacated k e in absurd (omega arith)) (λ (ne : times k view.used ≢ 0). omega arith) in
    let calm : standing k s.views ≡ 0 = dite (ℕ_discrete (standing k s.views) 0) (λ (e : standing k s.views ≡ 0). e) (λ (ne : standing k s.views ≢ 0). let y = r.ended k (omega arith) in let z = y.1 in absurd (omega arith)) in
    let not : v.role ≢ Keeper = λ e. absurd (cc) in
    let two = total_two (λ u. times k u.held) s.views keeper id view v r.there at (apart n s keeper view r id v at not) in (
      w,
      keeps,
      tt,
      (
        keeper,
        view,
        seat_steps n s keeper view r id v w (set s.words k next) at sits sits (length-set s.words k next ∙ wide)
            (λ j. dite (ℕ_discrete k j)
            (λ (e : k ≡ j). subst (λ (i : ℕ). times i w.held ≤ 1) e (omega arith))
            (λ (ne : k ≢ j). let a = there j ne in let b = mine j in omega arith))
            (λ j h. dite (ℕ_discrete k j)
            (λ (e : k ≡ j). subst (λ (i : ℕ). get_or (set s.words k next) i 0 ≡ holders i (set s.views id w)) e
            (let b = sum k in get_or-set_same s.words k next 0 (omega arith) ∙ omega arith))
            (λ (ne : k ≢ j). let a = there j ne in let b = sum j in get_or-set_other s.words k j next 0 (λ (e : j ≡ k). ne (sym e)) ∙ (r.number j h ∙ omega arith)))
            (λ j none_used. dite (ℕ_discrete k j)
            (λ (e : k ≡ j). absurd (let t : 0 < times j view.used = subst (λ (i : ℕ). 0 < times i view.used) e used in omega arith))
            (λ (ne : k ≢ j). let a = there j ne in let b = sum j in let c = r.vacated j none_used in omega arith))
            (λ j. let a = stand j in let b = none_before j in let c = r.stands j in ⊎_elim
            (λ (t : (x ≡ 1) × (stood j w.stands ≡ weight (eqb k j))). dite (ℕ_discrete k j)
            (λ (e : k ≡ j). let y : standing j s.views ≡ 0 = subst (λ (i : ℕ). standing i s.views ≡ 0) e calm in let o = weight_one k j in let z = t.1 in omega arith)
            (λ (ne : k ≢ j). let o = weight_other k j ne in let z = t.1 in omega arith))
            (λ (t : (x ≢ 1) × (stood j w.stands ≡ 0)). let z = t.1 in omega arith)
            (stood_after j k x))
            (λ j up. let a = stand j in let b = none_before j in dite (ℕ_discrete k j)
            (λ (e : k ≡ j). ⊎_elim
            (λ (t : (x ≡ 1) × (stood j w.stands ≡ weight (eqb k j))). subst (λ (i : ℕ). (0 < times i view.used) × (holders i (set s.views id w) ≡ 0)) e (used, (let c = sum k in let d = t.0 in omega arith)))
            (λ (t : (x ≢ 1) × (stood j w.stands ≡ 0)). absurd (let y : standing j s.views ≡ 0 = subst (λ (i : ℕ). standing i s.views ≡ 0) e calm in let z = t.1 in omega arith))
            (stood_after j k x))
            (λ (ne : k ≢ j). let o = weight_other k j ne in
            let same : stood j w.stands ≡ 0 = ⊎_elim (λ (t : (x ≡ 1) × (stood j w.stands ≡ weight (eqb k j))). t.1 ∙ o) (λ (t : (x ≢ 1) × (stood j w.stands ≡ 0)). t.1) (stood_after j k x) in
            let y = r.ended j (omega arith) in let d = there j ne in let c = sum j in let z = y.1 in (y.0, omega arith)))
            (λ j used_j none_hold. let a = stand j in let b = none_before j in dite (ℕ_discrete k j)
            (λ (e : k ≡ j). subst (λ (i : ℕ). holders i (set s.views id w) ≡ 0 → 0 < standing i (set s.views id w)) e (λ zero_held. let c = sum k in let d = stand k in let o = weight_same k in ⊎_elim
            (λ (t : (x ≡ 1) × (stood k w.stands ≡ weight (eqb k k))). let f = none_before k in let z = t.1 in omega arith)
            (λ (t : (x ≢ 1) × (stood k w.stands ≡ 0)). absurd (t.0 (omega arith)))
            (stood_after k k x)) none_hold)
            (λ (ne : k ≢ j). let c = there j ne in let d = sum j in let z = r.owed j used_j (omega arith) in omega arith))
            (let a = counts_after k x in let b : one_slot v.stands ≡ 0 = ap one_slot free in omega arith)
            (λ j. let a = show_set n s keeper view r id v w at j in let b = r.shown j in omega arith)
            (λ j used_j out. dite (ℕ_discrete k j)
            (λ (e : k ≡ j). absurd (let c = subst (λ (i : ℕ). times i view.held + times i v.held ≤ holders i s.views) e two in let o = subst (λ (i : ℕ). times i v.held ≡ 1) e once in let d = r.unlent j used_j out in omega arith))
            (λ (ne : k ≢ j). let a = there j ne in let b = sum j in let c = r.unlent j used_j out in omega arith)),
      ),
      (refl, omega arith),
    )
