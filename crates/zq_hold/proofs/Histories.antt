-- A history of the table, as seen by a seat that acts among others.
use Rattle.std.proofs.Common.{◌≡◌, ◌≢◌, ℕ, zero, suc, ◌+◌, ◌<◌, ◌≤◌, eqb, List, [], ◌∷◌, ◌++◌, length, set, sym, refl, ap, ◌∙◌, subst, inl, inr, ⊎_elim, arith, length-set}
use mathlib.Core.Option.{Option, none, some, some-injective}
use mathlib.Core.Logic.{dite}
use native.Mathlib.Decide.{ℕ_discrete}
use lib.ListN.{get_elem?}
use Rattle.std.specs.Prelude.{slice_index}
use Rattle.atomic_table.proofs.Lists.{at_set, set_else, at_longer, at_last}
use Rattle.zq_hold.specs.declared.view.HoldView.{HoldView}
use Rattle.zq_hold.specs.declared.view.Role.TheVariants.{Keeper, Seat}
use Rattle.zq_hold.specs.Slots.{weight, times, stood, one_slot}
use Rattle.zq_hold.specs.Views.{nobody}
use Rattle.zq_hold.specs.Rule.{HoldState, live, IsKept}
use Rattle.zq_hold.specs.Laws.{IsStep, IsCut, IsJoin, LeavesZero}
use Rattle.zq_hold.specs.Histories.{Move, steps, cuts, joins, others, IsHistory, value_at, sum_at, waiting, SeatHasCounted, SeatIsTold}
use Rattle.zq_hold.proofs.Totals.{weight_same, weight_one, weight_other}
use Rattle.zq_hold.proofs.Cuts.{now_there}
use Rattle.zq_hold.proofs.Follows.{stands_for, stood_one, stood_less, stood_most, in_views, now_mine, other_steps, other_cut, other_join}

-- ---- sums over places

module _ (f : HoldView → ℕ) where
  sum_same : (l m : List HoldView) (places : List ℕ) → ((j : ℕ) → 0 < times j places → get_elem? m j ≡ get_elem? l j) → sum_at f m places ≡ sum_at f l places
  sum_same l m [] h = refl
  sum_same l m (j ∷ places) h =
      let o = weight_same j in
      let here : value_at f (get_elem? m j) ≡ value_at f (get_elem? l j) = ap (value_at f) (h j (omega arith)) in
      let r = sum_same l m places (λ x up. h x (omega arith)) in omega arith

  sum_set : (l : List HoldView) (i : ℕ) (v w : HoldView) (places : List ℕ) → get_elem? l i ≡ some v → times i places ≡ 1 → sum_at f (set l i w) places + f v ≡ sum_at f l places + f w
  sum_set l i v w [] e once = absurd (omega arith)
  sum_set l i v w (j ∷ places) e once = dite (ℕ_discrete j i)
      (λ (is : j ≡ i).
      let new : value_at f (get_elem? (set l i w) j) ≡ f w = ap (λ (x : ℕ). value_at f (get_elem? (set l i w) x)) is ∙ ap (value_at f) (now_there l i v w e) in
      let old : value_at f (get_elem? l j) ≡ f v = ap (λ (x : ℕ). value_at f (get_elem? l x)) is ∙ ap (value_at f) e in
      let one : weight (eqb j i) ≡ 1 = ap (λ (x : ℕ). weight (eqb x i)) is ∙ weight_same i in
      let r = sum_same l (set l i w) places (λ m up. set_else l i m w (λ (c : m ≡ i). let z : 0 < times i places = subst (λ (x : ℕ). 0 < times x places) c up in omega arith)) in omega arith)
      (λ (ne : j ≢ i).
      let o = weight_other j i ne in
      let here : value_at f (get_elem? (set l i w) j) ≡ value_at f (get_elem? l j) = ap (value_at f) (set_else l i j w ne) in
      let r = sum_set l i v w places e (omega arith) in omega arith)

  sum_some : (l : List HoldView) (i : ℕ) (v : HoldView) (places : List ℕ) → get_elem? l i ≡ some v → 0 < times i places → f v ≤ sum_at f l places
  sum_some l i v [] e up = absurd (omega arith)
  sum_some l i v (j ∷ places) e up = dite (ℕ_discrete j i)
      (λ (is : j ≡ i). let here : value_at f (get_elem? l j) ≡ f v = ap (λ (x : ℕ). value_at f (get_elem? l x)) is ∙ ap (value_at f) e in omega arith)
      (λ (ne : j ≢ i). let o = weight_other j i ne in let r = sum_some l i v places e (omega arith) in omega arith)

module _ (f g : HoldView → ℕ) where
  value_le : ((v : HoldView) → f v ≤ g v) → (o : Option HoldView) → value_at f o ≤ value_at g o
  value_le h none = omega arith
  value_le h (some v) = h v

  sum_le : ((v : HoldView) → f v ≤ g v) → (l : List HoldView) (places : List ℕ) → sum_at f l places ≤ sum_at g l places
  sum_le h l [] = omega arith
  sum_le h l (j ∷ places) = let a = value_le h (get_elem? l j) in let r = sum_le h l places in omega arith

  value_zero : (o : Option HoldView) → ((v : HoldView) → o ≡ some v → f v ≡ 0 → g v ≡ 0) → value_at f o ≡ 0 → value_at g o ≡ 0
  value_zero none h z = refl
  value_zero (some v) h z = h v refl z

  sum_zero : (l : List HoldView) (places : List ℕ) → ((j : ℕ) (v : HoldView) → get_elem? l j ≡ some v → f v ≡ 0 → g v ≡ 0) → sum_at f l places ≡ 0 → sum_at g l places ≡ 0
  sum_zero l [] h z = refl
  sum_zero l (j ∷ places) h z = let a = value_zero (get_elem? l j) (h j) (omega arith) in let r = sum_zero l places h (omega arith) in omega arith

-- ---- one move

-- a view that is not the keeper's is there
abbrev Other : List HoldView → ℕ → Type 0
Other l j = (u : HoldView) × (get_elem? l j ≡ some u) × (u.role ≢ Keeper)

other_set : (l : List HoldView) (i : ℕ) (v w : HoldView) → get_elem? l i ≡ some v → w.role ≢ Keeper → (j : ℕ) → Other l j → Other (set l i w) j
other_set l i v w e not j was = dite (ℕ_discrete j i) (λ (is : j ≡ i). (w, ap (λ (x : ℕ). get_elem? (set l i w) x) is ∙ now_there l i v w e, not)) (λ (ne : j ≢ i). (was.0, set_else l i j w ne ∙ was.1, was.2))

-- the places are of views that are not the keeper's, each once
record Owns (n : ℕ) (s : HoldState) (places : List ℕ) : Type 0 where
  pub rule : IsKept n s
  pub once : (j : ℕ) → times j places ≤ 1
  pub there : (j : ℕ) → 0 < times j places → Other s.views j

-- what a move leaves, and what it keeps
record Goes (n : ℕ) (s : HoldState) (places : List ℕ) (s' : HoldState) (places' : List ℕ) : Type 0 where
  pub owns : Owns n s' places'
  pub grows : (j : ℕ) → 0 < times j places → 0 < times j places'
  pub lives : sum_at (λ v. live v.role) s'.views places' ≡ sum_at (λ v. live v.role) s.views places
  pub counts : sum_at (λ v. v.ended) s'.views places' + waiting s.views places ≡ sum_at (λ v. v.ended) s.views places + waiting s'.views places'
  pub stands : (k : ℕ) → slice_index s'.words k ≡ 0 → sum_at (λ v. stood k v.stands) s.views places ≤ sum_at (λ v. stood k v.stands) s'.views places'

module _ (n : ℕ) (s s' : HoldState) (places : List ℕ) (o : Owns n s places) where
  is_other : (i : ℕ) (v : HoldView) → 0 < times i places → get_elem? s.views i ≡ some v → v.role ≢ Keeper
  is_other i v up e = let u = o.there i up in subst (λ (x : HoldView). x.role ≢ Keeper) (some-injective u.0 v (sym u.1 ∙ e)) u.2

  has_one : (i : ℕ) → 0 < times i places → times i places ≡ 1
  has_one i up = let a = o.once i in omega arith

  moved_there : (l : List HoldView) (j : ℕ) → s'.views ≡ l → Other l j → Other s'.views j
  moved_there l j e u = (u.0, ap (λ (m : List HoldView). get_elem? m j) e ∙ u.1, u.2)

  by_step : (i : ℕ) (v w : HoldView) → 0 < times i places → IsStep n s s' i v w → Goes n s places s' places
  by_step i v w up t =
      let q = other_steps n s s' i v w t (is_other i v up t.mine) in
      let sum : (f : HoldView → ℕ) → sum_at f s'.views places + f v ≡ sum_at f s.views places + f w = λ f. ap (λ (l : List HoldView). sum_at f l places + f v) t.views ∙ sum_set f s.views i v w places t.mine (has_one i up) in
      let lives = q.1 in
      let counts = q.2 in record {
        owns = record { rule = t.after; once = o.once; there = λ j here. moved_there (set s.views i w) j t.views (other_set s.views i v w t.mine q.0 j (o.there j here)) };
        grows = λ j here. here;
        lives = let a = sum (λ u. live u.role) in omega arith;
        counts = let a = sum (λ u. u.ended) in let b = sum (λ u. one_slot u.stands) in omega arith;
        stands = λ k now. let a = sum (λ u. stood k u.stands) in let most = stood_most k v.stands in dite (ℕ_discrete (stood k v.stands) 0)
            (λ (z : stood k v.stands ≡ 0). omega arith)
            (λ (ne : stood k v.stands ≢ 0). let one = stood_one k w.stands ((q.3 k).1 (now, inr (stands_for k v.stands (omega arith)))) in omega arith);
      }

  by_cut : (i : ℕ) (v left right : HoldView) → 0 < times i places → IsCut n s s' i v left right → Goes n s places s' (length s.views ∷ places)
  by_cut i v left right up t =
      let q = other_cut n s s' i v left right t (is_other i v up t.mine) in
      let len : ℕ = length s.views in
      let first : List HoldView = set s.views i left in
      let whole : List HoldView = first ++ right ∷ [] in
      let last : get_elem? whole len ≡ some right = at_last first right len (length-set s.views i left) in
      let kept : (j : ℕ) → 0 < times j places → Other first j = λ j here. other_set s.views i v left t.mine q.0 j (o.there j here) in
      let longer : (j : ℕ) → 0 < times j places → get_elem? whole j ≡ get_elem? first j = λ j here. let u = kept j here in at_longer first (right ∷ []) j u.0 u.1 ∙ sym u.1 in
      let sum : (f : HoldView → ℕ) → sum_at f s'.views (len ∷ places) + f v ≡ sum_at f s.views places + f left + f right = λ f.
      let a = ap (λ (l : List HoldView). sum_at f l (len ∷ places)) t.views in
      let b : value_at f (get_elem? whole len) ≡ f right = ap (value_at f) last in
      let c = sum_same f first whole places longer in
      let d = sum_set f s.views i v left places t.mine (has_one i up) in omega arith in
      let lives = q.2 in
      let counts = q.3 in
      let slots = q.5 in record {
        owns = record {
          rule = t.after;
          once = λ j. dite (ℕ_discrete len j)
              (λ (is : len ≡ j). let a = weight_one len j in dite (ℕ_discrete (times j places) 0) (λ (z : times j places ≡ 0). omega arith) (λ (ne : times j places ≢ 0). absurd (let u = o.there j (omega arith) in let b = in_views s.views j u.0 u.1 in omega arith)))
              (λ (ne : len ≢ j). let a = weight_other len j ne in let b = o.once j in omega arith);
          there = λ j here. moved_there whole j t.views (dite (ℕ_discrete len j)
              (λ (is : len ≡ j). (right, ap (λ (x : ℕ). get_elem? whole x) (sym is) ∙ last, q.1))
              (λ (ne : len ≢ j). let a = weight_other len j ne in let u = kept j (omega arith) in (u.0, at_longer first (right ∷ []) j u.0 u.1, u.2)));
        };
        grows = λ j here. omega arith;
        lives = let a = sum (λ u. live u.role) in omega arith;
        counts = let a = sum (λ u. u.ended) in let b = sum (λ u. one_slot u.stands) in omega arith;
        stands = λ k now. let a = sum (λ u. stood k u.stands) in let b = q.4 k in omega arith;
      }

  by_join : (i j : ℕ) (v w both spent : HoldView) → 0 < times i places → 0 < times j places → IsJoin n s s' i j v w both spent → Goes n s places s' places
  by_join i j v w both spent up up' t =
      let q = other_join n s s' i j v w both spent t (is_other i v up t.mine) (is_other j w up' t.other) in
      let first : List HoldView = set s.views i both in
      let there : get_elem? first j ≡ some w = set_else s.views i j both t.apart ∙ t.other in
      let sum : (f : HoldView → ℕ) → sum_at f s'.views places + f w + f v ≡ sum_at f s.views places + f both + f spent = λ f.
      let a = ap (λ (l : List HoldView). sum_at f l places) t.views in
      let b = sum_set f first j w spent places there (has_one j up') in
      let c = sum_set f s.views i v both places t.mine (has_one i up) in omega arith in
      let lives = q.2 in
      let counts = q.3 in
      let slots = q.5 in record {
        owns = record { rule = t.after; once = o.once; there = λ m here. moved_there (set first j spent) m t.views (other_set first j w spent there q.1 m (other_set s.views i v both t.mine q.0 m (o.there m here))) };
        grows = λ m here. here;
        lives = let a = sum (λ u. live u.role) in omega arith;
        counts = let a = sum (λ u. u.ended) in let b = sum (λ u. one_slot u.stands) in omega arith;
        stands = λ k now. let a = sum (λ u. stood k u.stands) in let b = q.4 k in omega arith;
      }

  by_others : IsKept n s' → ((j : ℕ) → 0 < times j places → get_elem? s'.views j ≡ get_elem? s.views j) → Goes n s places s' places
  by_others rule same =
      let sum : (f : HoldView → ℕ) → sum_at f s'.views places ≡ sum_at f s.views places = λ f. sum_same f s.views s'.views places same in record {
        owns = record { rule = rule; once = o.once; there = λ j here. let u = o.there j here in (u.0, same j here ∙ u.1, u.2) };
        grows = λ j here. here;
        lives = sum (λ u. live u.role);
        counts = let a = sum (λ u. u.ended) in let b = sum (λ u. one_slot u.stands) in omega arith;
        stands = λ k now. let a = sum (λ u. stood k u.stands) in omega arith;
      }

goes : (n : ℕ) (s s' : HoldState) (places places' : List ℕ) → Owns n s places → Move n s places s' places' → Goes n s places s' places'
goes n s s' places places' o (steps i v w up t same) = subst (Goes n s places s') (sym same) (by_step n s s' places o i v w up t)
goes n s s' places places' o (cuts i v left right up t same) = subst (Goes n s places s') (sym same) (by_cut n s s' places o i v left right up t)
goes n s s' places places' o (joins i j v w both spent up up' t same) = subst (Goes n s places s') (sym same) (by_join n s s' places o i j v w both spent up up' t)
goes n s s' places places' o (others before after kept same) = subst (Goes n s places s') (sym same) (by_others n s s' places o after kept)

before_move : (n : ℕ) (s s' : HoldState) (places places' : List ℕ) → Move n s places s' places' → IsKept n s
before_move n s s' places places' (steps i v w up t same) = t.before
before_move n s s' places places' (cuts i v left right up t same) = t.before
before_move n s s' places places' (joins i j v w both spent up up' t same) = t.before
before_move n s s' places places' (others before after kept same) = before

-- ---- histories

module _ (n : ℕ) (states : ℕ → HoldState) (places : ℕ → List ℕ) (i count : ℕ) (h : IsHistory n states places i count) where
  abbrev At : (HoldView → ℕ) → ℕ → ℕ
  At f m = sum_at f (states m).views (places m)

  not_keeper : h.seat.role ≢ Keeper
  not_keeper e = let a : live h.seat.role ≡ 1 = ap live e in let sits = h.sits in absurd (cc)

  first_sum : (f : HoldView → ℕ) → At f 0 ≡ f h.seat
  first_sum f = let a = ap (sum_at f (states 0).views) h.first in let b : value_at f (get_elem? (states 0).views i) ≡ f h.seat = ap (value_at f) h.mine in omega arith

  owns_first : Owns n (states 0) (places 0)
  owns_first = record {
    rule = before_move n (states 0) (states 1) (places 0) (places 1) (h.moves 0);
    once = λ j. let a = ap (times j) h.first in let b = weight_one i j in omega arith;
    there = λ j here. let a = ap (times j) h.first in dite (ℕ_discrete i j)
        (λ (is : i ≡ j). (h.seat, ap (λ (x : ℕ). get_elem? (states 0).views x) (sym is) ∙ h.mine, not_keeper))
        (λ (ne : i ≢ j). absurd (let b = weight_other i j ne in omega arith));
  }

  record Run (m : ℕ) : Type 0 where
    pub owns : Owns n (states m) (places m)
    pub mine : 0 < times i (places m)
    pub lives : At (λ v. live v.role) m ≡ 1
    pub counts : At (λ v. v.ended) m ≡ count + waiting (states m).views (places m)

  run : (m : ℕ) → Run m
  run zero = record {
    owns = owns_first;
    mine = let a = ap (times i) h.first in let b = weight_same i in omega arith;
    lives = first_sum (λ v. live v.role) ∙ ap live h.sits;
    counts = let a = first_sum (λ v. v.ended) in let b = first_sum (λ v. one_slot v.stands) in let c : one_slot h.seat.stands ≡ 0 = ap one_slot h.free in let d = h.counts in omega arith;
  }
  run (suc m) =
      let q = run m in
      let g = goes n (states m) (states (suc m)) (places m) (places (suc m)) q.owns (h.moves m) in
      let before = q.counts in
      let now = g.counts in record { owns = g.owns; mine = g.grows i q.mine; lives = g.lives ∙ q.lives; counts = omega arith }

  has_counted : (m : ℕ) (u : HoldView) → get_elem? (states m).views i ≡ some u → u.role ≡ Seat → u.ended ≡ count + waiting (states m).views (places m)
  has_counted m u at sits =
      let q = run m in
      let l : List HoldView = (states m).views in
      let r = q.owns.rule.2 in
      let one = has_one n (states m) (states m) (places m) q.owns i q.mine in
      let lives = q.lives in
      let counts = q.counts in
      let alive : live u.role ≡ 1 = ap live sits in
      let a = sum_set (λ v. live v.role) l i u nobody (places m) at one in
      let b = sum_set (λ v. v.ended) l i u nobody (places m) at one in
      let idle = sum_zero (λ v. live v.role) (λ v. v.ended) (set l i nobody) (places m)
      (λ j x e dead. ⊎_elim (λ (c : (j ≡ i) × (nobody ≡ x)). ap (λ (y : HoldView). y.ended) (sym c.1)) (λ (c : (j ≢ i) × (get_elem? l j ≡ some x)). r.idle j x c.1 dead) (at_set l i j nobody x e)) (omega arith) in omega arith

  module _ (a j k : ℕ) (v w : HoldView) (up : 0 < times j (places a)) (t : IsStep n (states a) (states (suc a)) j v w) (left : LeavesZero k (states a) (states (suc a))) where
    stands_after : 0 < At (λ x. stood k x.stands) (suc a)
    stands_after =
        let q = run a in
        let g = goes n (states a) (states (suc a)) (places a) (places (suc a)) q.owns (h.moves a) in
        let s = other_steps n (states a) (states (suc a)) j v w t (is_other n (states a) (states (suc a)) (places a) q.owns j v up t.mine) in
        let one = stood_one k w.stands ((s.3 k).1 (left.1, inl left.0)) in
        let some = sum_some (λ x. stood k x.stands) (states (suc a)).views j w (places (suc a)) (now_mine n (states a) (states (suc a)) j v w t) (g.grows j up) in omega arith

    stands_on : (b : ℕ) → a < b → ((m : ℕ) → a < m → m ≤ b → slice_index (states m).words k ≡ 0) → 0 < At (λ x. stood k x.stands) b
    stands_on zero later zeros = absurd (omega arith)
    stands_on (suc b) later zeros = dite (ℕ_discrete a b)
        (λ (is : a ≡ b). subst (λ (x : ℕ). 0 < At (λ y. stood k y.stands) (suc x)) is stands_after)
        (λ (ne : a ≢ b).
        let before = stands_on b (omega arith) (λ m after until. zeros m after (omega arith)) in
        let g = goes n (states b) (states (suc b)) (places b) (places (suc b)) (run b).owns (h.moves b) in
        let more = g.stands k (zeros (suc b) later (omega arith)) in omega arith)

pub seat_has_counted : SeatHasCounted
seat_has_counted n states places i count h m u at sits = has_counted n states places i count h m u at sits

pub seat_is_told : SeatIsTold
seat_is_told n states places i count h a j k v w up t left b later zeros u at sits =
    let is = has_counted n states places i count h b u at sits in
    let stands = stands_on n states places i count h a j k v w up t left b later zeros in
    let less = sum_le (λ x. stood k x.stands) (λ x. one_slot x.stands) (λ x. stood_less k x.stands) (states b).views (places b) in omega arith
