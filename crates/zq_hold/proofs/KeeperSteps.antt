-- The keeper's steps on a slot's word, and the start.
use Rattle.std.proofs.Common.{◌≡◌, ◌≢◌, ◌⊎◌, ℕ, zero, suc, ◌+◌, ◌-◌, ◌%◌, ◌^◌, ◌<◌, ◌≤◌, Bool, eqb, List, [], ◌∷◌, length, set, get_or, sym, refl, ap, ◌∙◌, subst, inl, inr, ⊎_elim, eq-eqb, arith, Some, None, length-set, get_or-set_same, get_or-set_other}
use mathlib.Core.Option.{some, none, some-injective, some-ne-none}
use mathlib.Core.Logic.{dite}
use native.Mathlib.Decide.{ℕ_discrete, dec_lt}
use lib.ListN.{get_elem?}
use lib.Seq.{set-get_or}
use prog.Atomic.{either}
use Rattle.atomic_table.specs.Table.{step, keeps, Allows, opening}
use Rattle.zq_hold.specs.declared.view.HoldView.{HoldView}
use Rattle.zq_hold.specs.declared.view.Role.TheVariants.{Keeper}
use Rattle.zq_hold.specs.Slots.{weight, times, without, stood, one_slot, below}
use Rattle.zq_hold.specs.Views.{first_keeper, released, opened, closed}
use Rattle.zq_hold.specs.Rule.{HoldState, live, holders, standing, showing, IsKeptBy, IsKept}
use Rattle.zq_hold.specs.Steps.{Mine, ReleasesKept, Opens, Vacates}
use Rattle.zq_hold.proofs.Totals.{total_one, weight_same, weight_one, weight_other, times_without_same, times_without_other, below_past, below_has}
use Rattle.zq_hold.proofs.SeatSteps.{few, each_set, hold_set, stand_set, show_set, seat_set, end_set, wait_set, keeper_holds, stood_after, counts_after}
use Rattle.zq_hold.proofs.Cuts.{keeper_rule, now_there}

-- a step of the keeper
keeper_steps : (n : ℕ) (s : HoldState) (id : ℕ) (v w : HoldView) (r : IsKeptBy n s id v) (words : List ℕ) → w.role ≡ Keeper
    → length words ≡ n → w.made ≡ v.made → w.joined ≡ v.joined → w.shows ≡ v.shows → ((k : ℕ) → times k w.held ≤ 1)
    → ((k : ℕ) → k < n → get_or words k 0 ≡ holders k (set s.views id w))
    → ((k : ℕ) → times k w.used ≡ 0 → holders k (set s.views id w) ≡ 0)
    → ((k : ℕ) → 0 < times k w.used → k < n)
    → ((k : ℕ) → standing k (set s.views id w) ≤ 1)
    → ((k : ℕ) → 0 < standing k (set s.views id w) → (0 < times k w.used) × (holders k (set s.views id w) ≡ 0))
    → ((k : ℕ) → 0 < times k w.used → holders k (set s.views id w) ≡ 0 → 0 < standing k (set s.views id w))
    → (w.ended + one_slot v.stands) + v.vacated ≡ (v.ended + one_slot w.stands) + w.vacated
    → ((k : ℕ) → showing k (set s.views id w) ≡ stood k w.pledged)
    → ((k : ℕ) → 0 < stood k w.pledged → (0 < times k w.held) × (0 < times k w.lent))
    → ((k : ℕ) → 0 < times k w.used → times k w.lent ≡ 0 → holders k (set s.views id w) ≡ times k w.held)
    → IsKept n record { words = words; homes = s.homes; views = set s.views id w }
keeper_steps n s id v w r words leads wide made joined unshown once number vacated within stands ended owed counts shown pledged unlent =
    let seats = seat_set n s id v r id v w r.there in
    let one : live v.role ≡ 1 = ap live r.keeps in
    let one' : live w.role ≡ 1 = ap live leads in
    let before = r.seats in
    let ends = end_set n s id v r id v w r.there in
    let waits = wait_set n s id v r id v w r.there in
    let sum = r.counted in
    let most = r.made in (
      id,
      w,
      record {
        wide = wide;
        there = now_there s.views id v w r.there;
        keeps = leads;
        only = each_set (λ j u. u.role ≡ Keeper → j ≡ id) s.views id w (λ _. refl) (λ j u _ e. r.only j u e);
        once = each_set (λ j u. (k : ℕ) → times k u.held ≤ live u.role) s.views id w (λ k. let h = once k in omega arith) (λ j u _ e. r.once j u e);
        number = number;
        vacated = vacated;
        within = within;
        seats = omega arith;
        made = omega arith;
        stands = stands;
        ended = ended;
        owed = owed;
        counted = omega arith;
        idle = each_set (λ j u. live u.role ≡ 0 → u.ended ≡ 0) s.views id w (λ dead. absurd (omega arith)) (λ j u _ e. r.idle j u e);
        bare = unshown ∙ r.bare;
        shown = shown;
        pledged = pledged;
        unlent = unlent;
      },
    )

-- a slot that a view stands for has the number 0
pub quiet_at : (n : ℕ) (s : HoldState) (id : ℕ) (v : HoldView) (r : IsKeptBy n s id v) (k : ℕ) → 0 < holders k s.views → standing k s.views ≡ 0
quiet_at n s id v r k some_hold = dite (ℕ_discrete (standing k s.views) 0) (λ (e : standing k s.views ≡ 0). e) (λ (ne : standing k s.views ≢ 0). let q = r.ended k (omega arith) in let z = q.1 in absurd (omega arith))

pub used_at : (n : ℕ) (s : HoldState) (id : ℕ) (v : HoldView) (r : IsKeptBy n s id v) (k : ℕ) → 0 < holders k s.views → 0 < times k v.used
used_at n s id v r k some_hold = dite (ℕ_discrete (times k v.used) 0) (λ (e : times k v.used ≡ 0). let z = r.vacated k e in absurd (omega arith)) (λ (ne : times k v.used ≢ 0). omega arith)

pub open_allowed : (n slots id : ℕ) (me : Mine) (k : ℕ) → k < n → me.0.role ≡ Keeper → times k me.0.held ≡ 0 → times k me.0.used ≡ 0
    → Allows (IsKept n) slots id me k (λ x. either (eqb x 0) 1 x) (Opens (step slots k 0 1 none) me)
open_allowed n slots id me k inside is free out s q _ at small =
    let v = me.0 in
    let r = keeper_rule n s q id v at is in
    let w = opened v k in
    let x : ℕ = get_or s.words k 0 in
    let zero_held = r.vacated k out in
    let found : x ≡ 0 = r.number k inside ∙ zero_held in
    let becomes : either (eqb x 0) 1 x ≡ 1 = ap (λ (b : Bool). either b 1 x) (eq-eqb x 0 found) in
    let next : ℕ = either (eqb x 0) 1 x in
    let wide = r.wide in
    let sum : (j : ℕ) → holders j (set s.views id w) + times j v.held ≡ holders j s.views + (weight (eqb k j) + times j v.held) = hold_set n s id v r id v w at in
    let mine : (j : ℕ) → times j v.held ≤ 1 = λ j. let a = r.once id v at j in let b : live v.role ≡ 1 = ap live is in omega arith in
    let stand : (j : ℕ) → standing j (set s.views id w) ≡ standing j s.views = λ j. let a = stand_set n s id v r id v w at j in omega arith in
    let stand_none : standing k s.views ≡ 0 = dite (ℕ_discrete (standing k s.views) 0) (λ (e : standing k s.views ≡ 0). e) (λ (ne : standing k s.views ≢ 0). let z = r.ended k (omega arith) in let y = z.0 in absurd (omega arith)) in (
      w,
      keeps,
      tt,
      keeper_steps n s id v w r (set s.words k next) is (length-set s.words k next ∙ wide) refl refl refl
          (λ j. let a = mine j in dite (ℕ_discrete k j)
          (λ (e : k ≡ j). subst (λ (i : ℕ). times i w.held ≤ 1) e (let b = weight_same k in omega arith))
          (λ (ne : k ≢ j). let b = weight_other k j ne in omega arith))
          (λ j h. dite (ℕ_discrete k j)
          (λ (e : k ≡ j). subst (λ (i : ℕ). get_or (set s.words k next) i 0 ≡ holders i (set s.views id w)) e
          (let a = weight_same k in let b = sum k in get_or-set_same s.words k next 0 (omega arith) ∙ (becomes ∙ omega arith)))
          (λ (ne : k ≢ j). let a = weight_other k j ne in let b = sum j in get_or-set_other s.words k j next 0 (λ (e : j ≡ k). ne (sym e)) ∙ (r.number j h ∙ omega arith)))
          (λ j none_used. let a = sum j in let b = weight_one k j in let c = r.vacated j (omega arith) in omega arith)
          (λ j up. dite (ℕ_discrete k j) (λ (e : k ≡ j). subst (λ (i : ℕ). i < n) e inside) (λ (ne : k ≢ j). let b = weight_other k j ne in r.within j (omega arith)))
          (λ j. let a = stand j in let b = r.stands j in omega arith)
          (λ j up. let a = stand j in let z = r.ended j (omega arith) in let y = z.0 in dite (ℕ_discrete k j)
          (λ (e : k ≡ j). absurd (let t : standing j s.views ≡ 0 = subst (λ (i : ℕ). standing i s.views ≡ 0) e stand_none in omega arith))
          (λ (ne : k ≢ j). let b = weight_other k j ne in let c = sum j in let d = z.1 in (omega arith, omega arith)))
          (λ j used none_hold. let a = stand j in let b = sum j in let z = r.owed j (omega arith) (omega arith) in omega arith)
          refl
          (λ j. let a = show_set n s id v r id v w at j in let b = r.shown j in omega arith)
          (λ j up. let p = r.pledged j up in let p0 = p.0 in let p1 = p.1 in dite (ℕ_discrete k j)
          (λ (e : k ≡ j). absurd (let t : times j v.held ≡ 0 = subst (λ (i : ℕ). times i v.held ≡ 0) e free in omega arith))
          (λ (ne : k ≢ j). let b = weight_other k j ne in (omega arith, omega arith)))
          (λ j up unlent_j. dite (ℕ_discrete k j)
          (λ (e : k ≡ j). subst (λ (i : ℕ). holders i (set s.views id w) ≡ times i w.held) e (let a = weight_same k in let b = sum k in omega arith))
          (λ (ne : k ≢ j). let a = weight_other k j ne in let b = sum j in let d = r.unlent j (omega arith) (omega arith) in omega arith)),
      (found, refl),
    )

pub vacate_allowed : (n slots id : ℕ) (me : Mine) (k : ℕ) → me.0.role ≡ Keeper → me.0.stands ≡ Some k → me.0.pledged ≡ None
    → Allows (IsKept n) slots id me k (λ x. x) (Vacates (step slots k 0 0 none) me)
vacate_allowed n slots id me k is ends free s q _ at small =
    let v = me.0 in
    let r = keeper_rule n s q id v at is in
    let w = closed v k in
    let x : ℕ = get_or s.words k 0 in
    let wide = r.wide in
    let mine_stands : stood k v.stands ≡ 1 = ap (stood k) ends ∙ weight_same k in
    let up = total_one (λ u. stood k u.stands) s.views id v at in
    let one = r.stands k in
    let over = r.ended k (omega arith) in
    let none_held = over.1 in
    let mine = keeper_holds n s id v r k in
    let sum : (j : ℕ) → holders j (set s.views id w) ≡ holders j s.views = λ j. let a = hold_set n s id v r id v w at j in omega arith in
    let stand : (j : ℕ) → standing j (set s.views id w) + stood j v.stands ≡ standing j s.views = λ j. let a = stand_set n s id v r id v w at j in omega arith in
    let no_pledge : (j : ℕ) → stood j v.pledged ≡ 0 = λ j. ap (stood j) free in
    let words_same : set s.words k x ≡ s.words = set-get_or s.words k 0 in
    let once : (j : ℕ) → times j v.held ≤ 1 = λ j. let a = r.once id v at j in let b : live v.role ≡ 1 = ap live is in omega arith in (
      w,
      keeps,
      tt,
      keeper_steps n s id v w r (set s.words k x) is (length-set s.words k x ∙ wide) refl refl refl
          once
          (λ j h. ap (λ (l : List ℕ). get_or l j 0) words_same ∙ (r.number j h ∙ sym (sum j)))
          (λ j none_used. sum j ∙ dite (ℕ_discrete k j)
          (λ (e : k ≡ j). subst (λ (i : ℕ). holders i s.views ≡ 0) e none_held)
          (λ (ne : k ≢ j). r.vacated j (sym (times_without_other j k v.used (λ (e : j ≡ k). ne (sym e))) ∙ none_used)))
          (λ j up_j. dite (ℕ_discrete k j)
          (λ (e : k ≡ j). absurd (let t : times j (without k v.used) ≡ 0 = subst (λ (i : ℕ). times i (without k v.used) ≡ 0) e (times_without_same k v.used) in omega arith))
          (λ (ne : k ≢ j). let b = times_without_other j k v.used (λ (e : j ≡ k). ne (sym e)) in r.within j (omega arith)))
          (λ j. let a = stand j in let b = r.stands j in omega arith)
          (λ j up_j. let a = stand j in let z = r.ended j (omega arith) in dite (ℕ_discrete k j)
          (λ (e : k ≡ j). absurd (let t : stood j v.stands ≡ 1 = subst (λ (i : ℕ). stood i v.stands ≡ 1) e mine_stands in let b = r.stands j in omega arith))
          (λ (ne : k ≢ j). let b = times_without_other j k v.used (λ (e : j ≡ k). ne (sym e)) in let c = z.0 in (omega arith, sum j ∙ z.1)))
          (λ j used_j none_hold. let a = stand j in let b = sum j in dite (ℕ_discrete k j)
          (λ (e : k ≡ j). absurd (let t : times j (without k v.used) ≡ 0 = subst (λ (i : ℕ). times i (without k v.used) ≡ 0) e (times_without_same k v.used) in omega arith))
          (λ (ne : k ≢ j). let c = times_without_other j k v.used (λ (e : j ≡ k). ne (sym e)) in let d : stood j v.stands ≡ 0 = ap (stood j) ends ∙ weight_other k j ne in let z = r.owed j (omega arith) (omega arith) in omega arith))
          (let a : one_slot v.stands ≡ 1 = ap one_slot ends in omega arith)
          (λ j. let a = show_set n s id v r id v w at j in let b = r.shown j in omega arith)
          (λ j up_j. absurd (let a = no_pledge j in omega arith))
          (λ j up_j unlent_j. dite (ℕ_discrete k j)
          (λ (e : k ≡ j). absurd (let t : times j (without k v.used) ≡ 0 = subst (λ (i : ℕ). times i (without k v.used) ≡ 0) e (times_without_same k v.used) in omega arith))
          (λ (ne : k ≢ j). let b = times_without_other j k v.used (λ (e : j ≡ k). ne (sym e)) in let c = times_without_other j k v.lent (λ (e : j ≡ k). ne (sym e)) in sum j ∙ r.unlent j (omega arith) (omega arith))),
      (refl, (let a = none_held in omega arith), over.0),
    )

pub release_kept_allowed : (n slots id : ℕ) (me : Mine) (k : ℕ) → k < n → me.0.role ≡ Keeper → me.0.stands ≡ None → me.0.pledged ≡ None → 0 < times k me.0.held
    → Allows (IsKept n) slots id me k (λ x. (x + (2 ^ 64 - 1)) % 2 ^ 64) (ReleasesKept (step slots k 1 0 none) me)
release_kept_allowed n slots id me k inside is free bare has s q _ at small =
    let v = me.0 in
    let r = keeper_rule n s q id v at is in
    let x : ℕ = get_or s.words k 0 in
    let w = released v k x in
    let next : ℕ = (x + (2 ^ 64 - 1)) % 2 ^ 64 in
    let most = few n s id v r k in
    let num : x ≡ holders k s.views = r.number k inside in
    let in_all = keeper_holds n s id v r k in
    let mine : (j : ℕ) → times j v.held ≤ 1 = λ j. let a = r.once id v at j in let b : live v.role ≡ 1 = ap live is in omega arith in
    let once : times k v.held ≡ 1 = let a = mine k in omega arith in
    let less : next + 1 ≡ x = omega arith in
    let here : times k w.held ≡ 0 = times_without_same k v.held in
    let there : (j : ℕ) → k ≢ j → times j w.held ≡ times j v.held = λ j ne. times_without_other j k v.held (λ (e : j ≡ k). ne (sym e)) in
    let sum : (j : ℕ) → holders j (set s.views id w) + times j v.held ≡ holders j s.views + times j w.held = hold_set n s id v r id v w at in
    let none_before : (j : ℕ) → stood j v.stands ≡ 0 = λ j. ap (stood j) free in
    let no_pledge : (j : ℕ) → stood j v.pledged ≡ 0 = λ j. ap (stood j) bare in
    let stand : (j : ℕ) → standing j (set s.views id w) + stood j v.stands ≡ standing j s.views + stood j w.stands = stand_set n s id v r id v w at in
    let wide = r.wide in
    let used : 0 < times k v.used = used_at n s id v r k (omega arith) in
    let calm : standing k s.views ≡ 0 = quiet_at n s id v r k (omega arith) in (
      w,
      keeps,
      tt,
      keeper_steps n s id v w r (set s.words k next) is (length-set s.words k next ∙ wide) refl refl refl
          (λ j. dite (ℕ_discrete k j)
          (λ (e : k ≡ j). subst (λ (i : ℕ). times i w.held ≤ 1) e (omega arith))
          (λ (ne : k ≢ j). let a = there j ne in let b = mine j in omega arith))
          (λ j h. dite (ℕ_discrete k j)
          (λ (e : k ≡ j). subst (λ (i : ℕ). get_or (set s.words k next) i 0 ≡ holders i (set s.views id w)) e
          (let b = sum k in get_or-set_same s.words k next 0 (omega arith) ∙ omega arith))
          (λ (ne : k ≢ j). let a = there j ne in let b = sum j in get_or-set_other s.words k j next 0 (λ (e : j ≡ k). ne (sym e)) ∙ (r.number j h ∙ omega arith)))
          (λ j none_used. dite (ℕ_discrete k j)
          (λ (e : k ≡ j). absurd (let t : 0 < times j v.used = subst (λ (i : ℕ). 0 < times i v.used) e used in omega arith))
          (λ (ne : k ≢ j). let a = there j ne in let b = sum j in let c = r.vacated j none_used in omega arith))
          r.within
          (λ j. let a = stand j in let b = none_before j in let c = r.stands j in ⊎_elim
          (λ (t : (x ≡ 1) × (stood j w.stands ≡ weight (eqb k j))). dite (ℕ_discrete k j)
          (λ (e : k ≡ j). let y : standing j s.views ≡ 0 = subst (λ (i : ℕ). standing i s.views ≡ 0) e calm in let o = weight_one k j in let z = t.1 in omega arith)
          (λ (ne : k ≢ j). let o = weight_other k j ne in let z = t.1 in omega arith))
          (λ (t : (x ≢ 1) × (stood j w.stands ≡ 0)). let z = t.1 in omega arith)
          (stood_after j k x))
          (λ j up. let a = stand j in let b = none_before j in dite (ℕ_discrete k j)
          (λ (e : k ≡ j). ⊎_elim
          (λ (t : (x ≡ 1) × (stood j w.stands ≡ weight (eqb k j))). subst (λ (i : ℕ). (0 < times i v.used) × (holders i (set s.views id w) ≡ 0)) e (used, (let c = sum k in let d = t.0 in omega arith)))
          (λ (t : (x ≢ 1) × (stood j w.stands ≡ 0)). absurd (let y : standing j s.views ≡ 0 = subst (λ (i : ℕ). standing i s.views ≡ 0) e calm in let z = t.1 in omega arith))
          (stood_after j k x))
          (λ (ne : k ≢ j). let o = weight_other k j ne in
          let same : stood j w.stands ≡ 0 = ⊎_elim (λ (t : (x ≡ 1) × (stood j w.stands ≡ weight (eqb k j))). t.1 ∙ o) (λ (t : (x ≢ 1) × (stood j w.stands ≡ 0)). t.1) (stood_after j k x) in
          let y = r.ended j (omega arith) in let d = there j ne in let c = sum j in let z = y.1 in (y.0, omega arith)))
          (λ j used_j none_hold. let a = stand j in let b = none_before j in dite (ℕ_discrete k j)
          (λ (e : k ≡ j). subst (λ (i : ℕ). holders i (set s.views id w) ≡ 0 → 0 < standing i (set s.views id w)) e (λ zero_held. let c = sum k in let d = stand k in let o = weight_same k in ⊎_elim
          (λ (t : (x ≡ 1) × (stood k w.stands ≡ weight (eqb k k))). let f = none_before k in let z = t.1 in omega arith)
          (λ (t : (x ≢ 1) × (stood k w.stands ≡ 0)). absurd (t.0 (omega arith)))
          (stood_after k k x)) none_hold)
          (λ (ne : k ≢ j). let c = there j ne in let d = sum j in let z = r.owed j used_j (omega arith) in omega arith))
          (let a = counts_after k x in let b : one_slot v.stands ≡ 0 = ap one_slot free in omega arith)
          (λ j. let a = show_set n s id v r id v w at j in let b = r.shown j in omega arith)
          (λ j up. absurd (let a = no_pledge j in omega arith))
          (λ j used_j out. dite (ℕ_discrete k j)
          (λ (e : k ≡ j). subst (λ (i : ℕ). 0 < times i v.used → times i v.lent ≡ 0 → holders i (set s.views id w) ≡ times i w.held) e (λ u o. let d = r.unlent k u o in let b = sum k in omega arith) used_j out)
          (λ (ne : k ≢ j). let a = there j ne in let b = sum j in let c = r.unlent j used_j out in omega arith)),
      (refl, omega arith, λ out. let d = r.unlent k used out in omega arith),
    )

pub starts : (n : ℕ) (words : List ℕ) → length words ≡ n → ((k : ℕ) → k < n → get_or words k 0 ≡ 1) → IsKept n (opening words [] (first_keeper n))
starts n words wide ones =
    let at_one : (j : ℕ) (v : HoldView) → get_elem? (first_keeper n ∷ []) j ≡ some v → (j ≡ 0) × (first_keeper n ≡ v) = only_one (first_keeper n) in
    let below_most : (k : ℕ) → times k (below n) ≤ 1 = λ k. ⊎_elim (λ (e : times k (below n) ≡ 1). omega arith) (λ (e : times k (below n) ≡ 0). omega arith) (past n k) in (
      0,
      first_keeper n,
      record {
        wide = wide;
        there = refl;
        keeps = refl;
        only = λ j v e _. (at_one j v e).0;
        once = λ j v e. subst (λ (u : HoldView). (k : ℕ) → times k u.held ≤ live u.role) (at_one j v e).1 below_most;
        number = λ k h. let a = ones k h in let b = below_has n k h in omega arith;
        vacated = λ k none_used. omega arith;
        within = λ k up. dite (dec_lt k n) (λ (h : k < n). h) (λ no. absurd (let z = below_past n k (omega arith) in omega arith));
        seats = omega arith;
        made = omega arith;
        stands = λ k. omega arith;
        ended = λ k up. absurd (omega arith);
        owed = λ k used none_hold. absurd (omega arith);
        counted = omega arith;
        idle = λ j v e. subst (λ (u : HoldView). live u.role ≡ 0 → u.ended ≡ 0) (at_one j v e).1 (λ _. refl);
        bare = refl;
        shown = λ k. omega arith;
        pledged = λ k up. absurd (omega arith);
        unlent = λ k up out. omega arith;
      },
    )
  where
    only_one : (u : HoldView) (j : ℕ) (v : HoldView) → get_elem? (u ∷ []) j ≡ some v → (j ≡ 0) × (u ≡ v)
    only_one u zero v e = (refl, some-injective u v e)
    only_one u (suc j) v e = absurd (some-ne-none v (sym e))

    past : (n k : ℕ) → (times k (below n) ≡ 1) ⊎ (times k (below n) ≡ 0)
    past zero k = inr refl
    past (suc n) k = dite (ℕ_discrete n k)
        (λ (e : n ≡ k). let w : weight (eqb n k) ≡ 1 = ap weight (eq-eqb n k e) in let r = below_past n k (omega arith) in inl (omega arith))
        (λ (m : n ≢ k). let w = weight_other n k m in ⊎_elim (λ (e : times k (below n) ≡ 1). inl (omega arith)) (λ (e : times k (below n) ≡ 0). inr (omega arith)) (past n k))
