-- The cuts and joins of views keep the rule.
use Rattle.std.proofs.Common.{◌≡◌, ◌≢◌, ℕ, zero, suc, ◌+◌, ◌<◌, ◌≤◌, List, [], ◌∷◌, ◌++◌, set, sym, refl, ap, ◌∙◌, subst, ⊎_elim, arith, Some, None}
use mathlib.Core.Option.{some, some-ne-none}
use mathlib.Core.Logic.{dite}
use native.Mathlib.Decide.{ℕ_discrete}
use lib.ListN.{get_elem?}
use Rattle.atomic_table.specs.Table.{Splits, Joins}
use Rattle.atomic_table.proofs.Lists.{set_else, at_snoc, at_longer}
use Rattle.zq_hold.specs.declared.view.HoldView.{HoldView}
use Rattle.zq_hold.specs.declared.view.Role.TheVariants.{Keeper, Seat, Pledge, Last}
use Rattle.zq_hold.specs.Slots.{times, stood, one_slot}
use Rattle.zq_hold.specs.Views.{nobody, new_seat, showing_only, last_of, pledging, made_one, joined_one}
use Rattle.zq_hold.specs.Rule.{HoldState, live, total, holders, standing, showing, seated, endings, outstanding, IsKeptBy, IsKept}
use Rattle.zq_hold.proofs.Totals.{total_set, total_snoc, weight_other}
use Rattle.zq_hold.proofs.SeatSteps.{keeper_is, apart, each_set}

-- seen from the keeper, the rule is of its own seat and view
pub keeper_rule : (n : ℕ) (s : HoldState) → IsKept n s → (id : ℕ) (v : HoldView) → get_elem? s.views id ≡ some v → v.role ≡ Keeper → IsKeptBy n s id v
keeper_rule n s q id v at is = let same = keeper_is n s q.0 q.1 q.2 id v at is in subst (λ (z : ℕ × HoldView). IsKeptBy n s z.0 z.1) (λ c. (sym same.0 c, sym same.1 c)) q.2

pub now_there : (l : List HoldView) (i : ℕ) (v w : HoldView) → get_elem? l i ≡ some v → get_elem? (set l i w) i ≡ some w
now_there [] i v w e = absurd (some-ne-none v (sym e))
now_there (x ∷ xs) zero v w e = refl
now_there (x ∷ xs) (suc i) v w e = now_there xs i v w e

-- a cut or a join, which changes no number
pub quiet : (n : ℕ) (s : HoldState) (keeper : ℕ) (view : HoldView) (r : IsKeptBy n s keeper view) (view' : HoldView) (views : List HoldView)
    → get_elem? views keeper ≡ some view' → view'.role ≡ Keeper → view'.held ≡ view.held → view'.used ≡ view.used → view'.shows ≡ view.shows
    → ((j : ℕ) (v : HoldView) → get_elem? views j ≡ some v → (v.role ≡ Keeper → j ≡ keeper) × ((k : ℕ) → times k v.held ≤ live v.role) × (live v.role ≡ 0 → v.ended ≡ 0))
    → ((k : ℕ) → holders k views ≡ holders k s.views)
    → seated views + view'.joined ≡ 1 + view'.made → view'.made ≤ 63
    → ((k : ℕ) → standing k views ≡ standing k s.views)
    → endings views ≡ view'.vacated + outstanding views
    → ((k : ℕ) → showing k views ≡ stood k view'.pledged)
    → ((k : ℕ) → 0 < stood k view'.pledged → (0 < times k view.held) × (0 < times k view'.lent))
    → ((k : ℕ) → times k view'.lent ≡ 0 → times k view.lent ≡ 0)
    → IsKeptBy n record { words = s.words; homes = s.homes; views = views } keeper view'
quiet n s keeper view r view' views there leads held used unshown each same seats made stand counts shown pledged lent =
    let held_same : (k : ℕ) → times k view'.held ≡ times k view.held = λ k. ap (times k) held in
    let used_same : (k : ℕ) → times k view'.used ≡ times k view.used = λ k. ap (times k) used in record {
      wide = r.wide;
      there = there;
      keeps = leads;
      only = λ j v e is. (each j v e).0 is;
      once = λ j v e. (each j v e).1;
      counted = counts;
      idle = λ j v e. (each j v e).2;
      number = λ k h. r.number k h ∙ sym (same k);
      vacated = λ k none. same k ∙ r.vacated k (sym (used_same k) ∙ none);
      within = λ k up. let a = used_same k in r.within k (omega arith);
      seats = seats;
      made = made;
      stands = λ k. let a = stand k in let b = r.stands k in omega arith;
      ended = λ k up. let a = stand k in let q = r.ended k (omega arith) in let b = used_same k in let c = q.0 in (omega arith, same k ∙ q.1);
      owed = λ k up none_hold. let a = stand k in let b = used_same k in let c = same k in let z = r.owed k (omega arith) (omega arith) in omega arith;
      bare = unshown ∙ r.bare;
      shown = shown;
      pledged = λ k up. let q = pledged k up in let a = q.0 in let b = held_same k in (omega arith, q.1);
      unlent = λ k up out. let a = used_same k in same k ∙ (r.unlent k (omega arith) (lent k out) ∙ sym (held_same k));
    }

module _ (f : HoldView → ℕ) where
  pub total_split : (l : List HoldView) (i : ℕ) (v left right : HoldView) → get_elem? l i ≡ some v → total f (set l i left ++ right ∷ []) + f v ≡ (total f l + f left) + f right
  total_split l i v left right e = let a = total_set f l i v left e in let b = total_snoc f (set l i left) right in omega arith

  pub total_join : (l : List HoldView) (i j : ℕ) (v both w spent : HoldView) → get_elem? l i ≡ some v → get_elem? (set l i both) j ≡ some w
      → (total f (set (set l i both) j spent) + f w) + f v ≡ (total f l + f both) + f spent
  total_join l i j v both w spent e d = let a = total_set f l i v both e in let b = total_set f (set l i both) j w spent d in omega arith

-- each view after a cut, and after a join
each_split : (P : ℕ → HoldView → Type 0) (l : List HoldView) (i : ℕ) (left right : HoldView) → P i left → ((j : ℕ) → P j right) → ((j : ℕ) (u : HoldView) → get_elem? l j ≡ some u → P j u)
    → (j : ℕ) (u : HoldView) → get_elem? (set l i left ++ right ∷ []) j ≡ some u → P j u
each_split P l i left right mine new others j u e = ⊎_elim (λ was. each_set P l i left mine (λ j u _ d. others j u d) j u was) (λ (same : right ≡ u). subst (P j) same (new j)) (at_snoc (set l i left) right u j e)

each_join : (P : ℕ → HoldView → Type 0) (l : List HoldView) (i k : ℕ) (both spent : HoldView) → P i both → P k spent → ((j : ℕ) (u : HoldView) → get_elem? l j ≡ some u → P j u)
    → (j : ℕ) (u : HoldView) → get_elem? (set (set l i both) k spent) j ≡ some u → P j u
each_join P l i k both spent mine gone others = each_set P (set l i both) k spent gone (λ j u _ d. each_set P l i both mine (λ j u _ d. others j u d) j u d)

abbrev Sound : ℕ → ℕ → HoldView → Type 0
Sound keeper j v = (v.role ≡ Keeper → j ≡ keeper) × ((k : ℕ) → times k v.held ≤ live v.role) × (live v.role ≡ 0 → v.ended ≡ 0)

sound : (n : ℕ) (s : HoldState) (keeper : ℕ) (view : HoldView) (r : IsKeptBy n s keeper view) (j : ℕ) (u : HoldView) → get_elem? s.views j ≡ some u → Sound keeper j u
sound n s keeper view r j u e = (r.only j u e, r.once j u e, r.idle j u e)

-- the keeper makes a seat
pub makes_seat : (n id : ℕ) (v : HoldView) → v.role ≡ Keeper → v.made < 63 → Splits (IsKept n) id v (made_one v) new_seat
makes_seat n id v is room s q at =
    let r = keeper_rule n s q id v at is in
    let left : HoldView = made_one v in
    let views = set s.views id left ++ new_seat ∷ [] in (
      id,
      left,
      quiet n s id v r left views
          (at_longer (set s.views id left) (new_seat ∷ []) id left (now_there s.views id v left at)) is refl refl refl
          (each_split (Sound id) s.views id left new_seat (r.only id v at, r.once id v at, λ dead. absurd (let lives : live v.role ≡ 1 = ap live is in omega arith)) (λ j. ((λ e. absurd (cc)), (λ k. omega arith), λ _. refl)) (sound n s id v r))
          (λ k. let a = total_split (λ u. times k u.held) s.views id v left new_seat at in omega arith)
          (let a = total_split (λ u. live u.role) s.views id v left new_seat at in let b = r.seats in omega arith)
          (omega arith)
          (λ k. let a = total_split (λ u. stood k u.stands) s.views id v left new_seat at in omega arith)
          (let a = total_split (λ u. u.ended) s.views id v left new_seat at in let b = total_split (λ u. one_slot u.stands) s.views id v left new_seat at in let c = r.counted in omega arith)
          (λ k. let a = total_split (λ u. stood k u.shows) s.views id v left new_seat at in let b = r.shown k in omega arith)
          r.pledged
          (λ k e. e),
    )

-- the keeper pledges the slot k
pub pledges : (n id k : ℕ) (v : HoldView) → v.role ≡ Keeper → v.pledged ≡ None → 0 < times k v.held → Splits (IsKept n) id v (pledging v k) (showing_only (Some k))
pledges n id k v is free has s q at =
    let r = keeper_rule n s q id v at is in
    let left : HoldView = pledging v k in
    let right = showing_only (Some k) in
    let views = set s.views id left ++ right ∷ [] in
    let none_yet : (j : ℕ) → stood j v.pledged ≡ 0 = λ j. ap (stood j) free in (
      id,
      left,
      quiet n s id v r left views
          (at_longer (set s.views id left) (right ∷ []) id left (now_there s.views id v left at)) is refl refl refl
          (each_split (Sound id) s.views id left right (r.only id v at, r.once id v at, λ dead. absurd (let lives : live v.role ≡ 1 = ap live is in omega arith)) (λ j. ((λ e. absurd (cc)), (λ k. omega arith), λ _. refl)) (sound n s id v r))
          (λ j. let a = total_split (λ u. times j u.held) s.views id v left right at in omega arith)
          (let a = total_split (λ u. live u.role) s.views id v left right at in let b = r.seats in omega arith)
          r.made
          (λ j. let a = total_split (λ u. stood j u.stands) s.views id v left right at in omega arith)
          (let a = total_split (λ u. u.ended) s.views id v left right at in let b = total_split (λ u. one_slot u.stands) s.views id v left right at in let c = r.counted in omega arith)
          (λ j. let a = total_split (λ u. stood j u.shows) s.views id v left right at in let b = r.shown j in let c = none_yet j in omega arith)
          (λ j up. dite (ℕ_discrete k j)
          (λ (e : k ≡ j). (subst (λ (i : ℕ). 0 < times i v.held) e has, omega arith))
          (λ (ne : k ≢ j). let a = weight_other k j ne in absurd (omega arith)))
          (λ j none. omega arith),
    )

-- the keeper takes its pledge back
pub takes_back : (n id other k : ℕ) (v w : HoldView) → v.role ≡ Keeper → v.pledged ≡ Some k → w.shows ≡ Some k → w.held ≡ [] → w.stands ≡ None → w.role ≡ Pledge
    → Joins (IsKept n) id v other w (record v { pledged = None }) nobody
takes_back n id other k v w is mine theirs empty idle role s q at apart_from there =
    let r = keeper_rule n s q id v at is in
    let both : HoldView = record v { pledged = None } in
    let views = set (set s.views id both) other nobody in (
      id,
      both,
      quiet n s id v r both views
          (set_else (set s.views id both) other id nobody (λ e. apart_from (sym e)) ∙ now_there s.views id v both at) is refl refl refl
          (each_join (Sound id) s.views id other both nobody (r.only id v at, r.once id v at, λ dead. absurd (let lives : live v.role ≡ 1 = ap live is in omega arith)) ((λ e. absurd (cc)), (λ k. omega arith), λ _. refl) (sound n s id v r))
          (λ j. let a = total_join (λ u. times j u.held) s.views id other v both w nobody at there in let b : times j w.held ≡ 0 = ap (times j) empty in omega arith)
          (let a = total_join (λ u. live u.role) s.views id other v both w nobody at there in let b = r.seats in let c : live w.role ≡ 0 = ap live role in omega arith)
          r.made
          (λ j. let a = total_join (λ u. stood j u.stands) s.views id other v both w nobody at there in let b : stood j w.stands ≡ 0 = ap (stood j) idle in omega arith)
          (let a = total_join (λ u. u.ended) s.views id other v both w nobody at there in let b = total_join (λ u. one_slot u.stands) s.views id other v both w nobody at there in let c = r.counted in let was : get_elem? s.views other ≡ some w = sym (set_else s.views id other both apart_from) ∙ there in let d : w.ended ≡ 0 = r.idle other w was (ap live role) in let e : one_slot w.stands ≡ 0 = ap one_slot idle in omega arith)
          (λ j. let a = total_join (λ u. stood j u.shows) s.views id other v both w nobody at there in let b = r.shown j in let c : stood j v.pledged ≡ stood j w.shows = ap (stood j) (mine ∙ sym theirs) in omega arith)
          (λ j up. absurd (omega arith))
          (λ j e. e),
    )

-- a seat's cut keeps the rule, where it keeps what the seat holds
seat_cuts : (n : ℕ) (s : HoldState) (keeper : ℕ) (view : HoldView) (r : IsKeptBy n s keeper view) (id : ℕ) (v left right : HoldView) → get_elem? s.views id ≡ some v
    → v.role ≡ Seat → left.role ≡ Seat → live right.role ≡ 0 → right.role ≢ Keeper → left.held ≡ v.held → right.held ≡ []
    → left.ended ≡ v.ended → right.ended ≡ 0 → one_slot left.stands + one_slot right.stands ≡ one_slot v.stands
    → ((k : ℕ) → stood k left.stands + stood k right.stands ≡ stood k v.stands) → ((k : ℕ) → stood k left.shows + stood k right.shows ≡ stood k v.shows)
    → IsKeptBy n record { words = s.words; homes = s.homes; views = set s.views id left ++ right ∷ [] } keeper view
seat_cuts n s keeper view r id v left right at sits sits' dead not_k same empty count_same none_counted waits stands shows =
    let not : v.role ≢ Keeper = λ e. absurd (cc) in
    let views = set s.views id left ++ right ∷ [] in
    let held_same : (k : ℕ) → times k left.held ≡ times k v.held = λ k. ap (times k) same in
    let none_held : (k : ℕ) → times k right.held ≡ 0 = λ k. ap (times k) empty in
    let role_same : live left.role ≡ live v.role = ap live (sits' ∙ sym sits) in
    quiet n s keeper view r view views
    (at_longer (set s.views id left) (right ∷ []) keeper view (set_else s.views id keeper left (apart n s keeper view r id v at not) ∙ r.there)) r.keeps refl refl refl
    (each_split (Sound keeper) s.views id left right
    ((λ e. absurd (cc)), (λ k. let a = r.once id v at k in let b = held_same k in omega arith), λ d. absurd (let lives : live left.role ≡ 1 = ap live sits' in omega arith))
    (λ j. ((λ e. absurd (not_k e)), (λ k. let a = none_held k in omega arith), λ _. none_counted)) (sound n s keeper view r))
    (λ k. let a = total_split (λ u. times k u.held) s.views id v left right at in let b = held_same k in let c = none_held k in omega arith)
    (let a = total_split (λ u. live u.role) s.views id v left right at in let b = r.seats in omega arith)
    r.made
    (λ k. let a = total_split (λ u. stood k u.stands) s.views id v left right at in let b = stands k in omega arith)
    (let a = total_split (λ u. u.ended) s.views id v left right at in let b = total_split (λ u. one_slot u.stands) s.views id v left right at in let c = r.counted in omega arith)
    (λ k. let a = total_split (λ u. stood k u.shows) s.views id v left right at in let b = shows k in let c = r.shown k in omega arith)
    r.pledged
    (λ k e. e)

pub gives_pledge : (n id : ℕ) (v : HoldView) → v.role ≡ Seat → Splits (IsKept n) id v (record v { shows = None }) (showing_only v.shows)
gives_pledge n id v sits s q at = (q.0, q.1, seat_cuts n s q.0 q.1 q.2 id v (record v { shows = None }) (showing_only v.shows) at sits sits refl (λ e. absurd (cc)) refl refl refl refl (omega arith) (λ k. omega arith) (λ k. omega arith))

pub seat_ends : (n id : ℕ) (v : HoldView) → v.role ≡ Seat → Splits (IsKept n) id v (record v { stands = None }) (last_of v.stands)
seat_ends n id v sits s q at = (q.0, q.1, seat_cuts n s q.0 q.1 q.2 id v (record v { stands = None }) (last_of v.stands) at sits sits refl (λ e. absurd (cc)) refl refl refl refl (omega arith) (λ k. omega arith) (λ k. omega arith))

pub keeper_ends : (n id : ℕ) (v : HoldView) → v.role ≡ Keeper → Splits (IsKept n) id v (record v { stands = None }) (last_of v.stands)
keeper_ends n id v is s q at =
    let r = keeper_rule n s q id v at is in
    let left : HoldView = record v { stands = None } in
    let right = last_of v.stands in
    let views = set s.views id left ++ right ∷ [] in (
      id,
      left,
      quiet n s id v r left views
          (at_longer (set s.views id left) (right ∷ []) id left (now_there s.views id v left at)) is refl refl refl
          (each_split (Sound id) s.views id left right (r.only id v at, r.once id v at, λ dead. absurd (let lives : live v.role ≡ 1 = ap live is in omega arith)) (λ j. ((λ e. absurd (cc)), (λ k. omega arith), λ _. refl)) (sound n s id v r))
          (λ k. let a = total_split (λ u. times k u.held) s.views id v left right at in omega arith)
          (let a = total_split (λ u. live u.role) s.views id v left right at in let b = r.seats in omega arith)
          r.made
          (λ k. let a = total_split (λ u. stood k u.stands) s.views id v left right at in omega arith)
          (let a = total_split (λ u. u.ended) s.views id v left right at in let b = total_split (λ u. one_slot u.stands) s.views id v left right at in let c = r.counted in omega arith)
          (λ k. let a = total_split (λ u. stood k u.shows) s.views id v left right at in let b = r.shown k in omega arith)
          r.pledged
          (λ k e. e),
    )

-- a seat's join keeps the rule, where it keeps what the seat holds
seat_joins : (n id other : ℕ) (v w both : HoldView) → v.role ≡ Seat → both.role ≡ Seat → live w.role ≡ 0 → w.role ≢ Keeper → both.held ≡ v.held → w.held ≡ []
    → both.ended ≡ v.ended → one_slot both.stands ≡ one_slot v.stands + one_slot w.stands
    → ((k : ℕ) → stood k both.stands ≡ stood k v.stands + stood k w.stands) → ((k : ℕ) → stood k both.shows ≡ stood k v.shows + stood k w.shows)
    → Joins (IsKept n) id v other w both nobody
seat_joins n id other v w both sits sits' dead not_w same empty count_same waits stands shows s q at apart_from there =
    let keeper : ℕ = q.0 in
    let view : HoldView = q.1 in
    let r = q.2 in
    let views = set (set s.views id both) other nobody in
    let was : get_elem? s.views other ≡ some w = sym (set_else s.views id other both apart_from) ∙ there in
    let not_v : v.role ≢ Keeper = λ e. absurd (cc) in
    let held_same : (k : ℕ) → times k both.held ≡ times k v.held = λ k. ap (times k) same in
    let none_held : (k : ℕ) → times k w.held ≡ 0 = λ k. ap (times k) empty in
    let role_same : live both.role ≡ live v.role = ap live (sits' ∙ sym sits) in (
      keeper,
      view,
      quiet n s keeper view r view views
          (set_else (set s.views id both) other keeper nobody (apart n s keeper view r other w was not_w) ∙ (set_else s.views id keeper both (apart n s keeper view r id v at not_v) ∙ r.there)) r.keeps refl refl refl
          (each_join (Sound keeper) s.views id other both nobody
          ((λ e. absurd (cc)), (λ k. let a = r.once id v at k in let b = held_same k in omega arith), λ d. absurd (let lives : live both.role ≡ 1 = ap live sits' in omega arith))
          ((λ e. absurd (cc)), (λ k. omega arith), λ _. refl) (sound n s keeper view r))
          (λ k. let a = total_join (λ u. times k u.held) s.views id other v both w nobody at there in let b = held_same k in let c = none_held k in omega arith)
          (let a = total_join (λ u. live u.role) s.views id other v both w nobody at there in let b = r.seats in omega arith)
          r.made
          (λ k. let a = total_join (λ u. stood k u.stands) s.views id other v both w nobody at there in let b = stands k in omega arith)
          (let a = total_join (λ u. u.ended) s.views id other v both w nobody at there in let b = total_join (λ u. one_slot u.stands) s.views id other v both w nobody at there in let c = r.counted in let d : w.ended ≡ 0 = r.idle other w was dead in omega arith)
          (λ k. let a = total_join (λ u. stood k u.shows) s.views id other v both w nobody at there in let b = shows k in let c = r.shown k in omega arith)
          r.pledged
          (λ k e. e),
    )

-- a seat takes in a pledge
pub takes_pledge : (n id other : ℕ) (v w : HoldView) → v.role ≡ Seat → v.shows ≡ None → w.role ≡ Pledge → w.held ≡ [] → w.stands ≡ None
    → Joins (IsKept n) id v other w (record v { shows = w.shows }) nobody
takes_pledge n id other v w sits bare role empty idle = seat_joins n id other v w (record v { shows = w.shows }) sits sits (ap live role) (λ e. absurd (cc)) refl empty refl (let a : one_slot w.stands ≡ 0 = ap one_slot idle in omega arith)
    (λ k. let a : stood k w.stands ≡ 0 = ap (stood k) idle in omega arith)
    (λ k. let a : stood k v.shows ≡ 0 = ap (stood k) bare in omega arith)

-- a seat takes in the view of a `Last`
pub seat_takes_last : (n id other : ℕ) (v w : HoldView) → v.role ≡ Seat → v.stands ≡ None → w.role ≡ Last → w.held ≡ [] → w.shows ≡ None
    → Joins (IsKept n) id v other w (record v { stands = w.stands }) nobody
seat_takes_last n id other v w sits idle role empty bare = seat_joins n id other v w (record v { stands = w.stands }) sits sits (ap live role) (λ e. absurd (cc)) refl empty refl (let a : one_slot v.stands ≡ 0 = ap one_slot idle in omega arith)
    (λ k. let a : stood k v.stands ≡ 0 = ap (stood k) idle in omega arith)
    (λ k. let a : stood k w.shows ≡ 0 = ap (stood k) bare in omega arith)

-- the keeper takes in the view of a `Last`
pub takes_last : (n id other : ℕ) (v w : HoldView) → v.role ≡ Keeper → v.stands ≡ None → w.role ≡ Last → w.held ≡ [] → w.shows ≡ None
    → Joins (IsKept n) id v other w (record v { stands = w.stands }) nobody
takes_last n id other v w is idle role empty bare s q at apart_from there =
    let r = keeper_rule n s q id v at is in
    let both : HoldView = record v { stands = w.stands } in
    let views = set (set s.views id both) other nobody in (
      id,
      both,
      quiet n s id v r both views
          (set_else (set s.views id both) other id nobody (λ e. apart_from (sym e)) ∙ now_there s.views id v both at) is refl refl refl
          (each_join (Sound id) s.views id other both nobody (r.only id v at, r.once id v at, λ dead. absurd (let lives : live v.role ≡ 1 = ap live is in omega arith)) ((λ e. absurd (cc)), (λ k. omega arith), λ _. refl) (sound n s id v r))
          (λ j. let a = total_join (λ u. times j u.held) s.views id other v both w nobody at there in let b : times j w.held ≡ 0 = ap (times j) empty in omega arith)
          (let a = total_join (λ u. live u.role) s.views id other v both w nobody at there in let b = r.seats in let c : live w.role ≡ 0 = ap live role in omega arith)
          r.made
          (λ j. let a = total_join (λ u. stood j u.stands) s.views id other v both w nobody at there in let b : stood j v.stands ≡ 0 = ap (stood j) idle in omega arith)
          (let a = total_join (λ u. u.ended) s.views id other v both w nobody at there in let b = total_join (λ u. one_slot u.stands) s.views id other v both w nobody at there in let c = r.counted in let was : get_elem? s.views other ≡ some w = sym (set_else s.views id other both apart_from) ∙ there in let d : w.ended ≡ 0 = r.idle other w was (ap live role) in let e : one_slot v.stands ≡ 0 = ap one_slot idle in omega arith)
          (λ j. let a = total_join (λ u. stood j u.shows) s.views id other v both w nobody at there in let b = r.shown j in let c : stood j w.shows ≡ 0 = ap (stood j) bare in omega arith)
          r.pledged
          (λ j e. e),
    )

-- a seat that holds nothing ends
pub leaves : (n id other : ℕ) (v w : HoldView) → v.role ≡ Keeper → w.role ≡ Seat → w.held ≡ [] → w.shows ≡ None → w.stands ≡ None
    → Joins (IsKept n) id v other w (joined_one v w.ended) nobody
leaves n id other v w is role empty bare idle s q at apart_from there =
    let r = keeper_rule n s q id v at is in
    let both : HoldView = joined_one v w.ended in
    let views = set (set s.views id both) other nobody in (
      id,
      both,
      quiet n s id v r both views
          (set_else (set s.views id both) other id nobody (λ e. apart_from (sym e)) ∙ now_there s.views id v both at) is refl refl refl
          (each_join (Sound id) s.views id other both nobody (r.only id v at, r.once id v at, λ dead. absurd (let lives : live v.role ≡ 1 = ap live is in omega arith)) ((λ e. absurd (cc)), (λ k. omega arith), λ _. refl) (sound n s id v r))
          (λ j. let a = total_join (λ u. times j u.held) s.views id other v both w nobody at there in let b : times j w.held ≡ 0 = ap (times j) empty in omega arith)
          (let a = total_join (λ u. live u.role) s.views id other v both w nobody at there in let b = r.seats in let c : live w.role ≡ 1 = ap live role in omega arith)
          r.made
          (λ j. let a = total_join (λ u. stood j u.stands) s.views id other v both w nobody at there in let b : stood j w.stands ≡ 0 = ap (stood j) idle in omega arith)
          (let a = total_join (λ u. u.ended) s.views id other v both w nobody at there in let b = total_join (λ u. one_slot u.stands) s.views id other v both w nobody at there in let c = r.counted in let e : one_slot w.stands ≡ 0 = ap one_slot idle in omega arith)
          (λ j. let a = total_join (λ u. stood j u.shows) s.views id other v both w nobody at there in let b = r.shown j in let c : stood j w.shows ≡ 0 = ap (stood j) bare in omega arith)
          r.pledged
          (λ j e. e),
    )
