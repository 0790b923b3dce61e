-- Sums over all views, and lists of slots.
use Rattle.std.proofs.Common.{◌≡◌, ◌≢◌, ℕ, zero, suc, ◌+◌, ◌<◌, ◌≤◌, Bool, eqb, cond, List, [], ◌∷◌, ◌++◌, set, sym, refl, ap, subst, eq-eqb, ne_eqb, arith}
use mathlib.Core.Option.{some, some-injective, some-ne-none}
use mathlib.Core.Logic.{dite}
use native.Mathlib.Decide.{ℕ_discrete}
use lib.ListN.{get_elem?}
use Rattle.zq_hold.specs.declared.view.HoldView.{HoldView}
use Rattle.zq_hold.specs.Slots.{weight, times, without, below}
use Rattle.zq_hold.specs.Rule.{total}

module _ (f : HoldView → ℕ) where
  pub total_set : (l : List HoldView) (i : ℕ) (v w : HoldView) → get_elem? l i ≡ some v → total f (set l i w) + f v ≡ total f l + f w
  total_set [] i v w e = absurd (some-ne-none v (sym e))
  total_set (x ∷ xs) zero v w e = let is : f x ≡ f v = ap f (some-injective x v e) in omega arith
  total_set (x ∷ xs) (suc i) v w e = let r = total_set xs i v w e in omega arith

  pub total_snoc : (l : List HoldView) (w : HoldView) → total f (l ++ w ∷ []) ≡ total f l + f w
  total_snoc [] w = omega arith
  total_snoc (x ∷ xs) w = let r = total_snoc xs w in omega arith

  pub total_one : (l : List HoldView) (i : ℕ) (v : HoldView) → get_elem? l i ≡ some v → f v ≤ total f l
  total_one [] i v e = absurd (some-ne-none v (sym e))
  total_one (x ∷ xs) zero v e = let is : f x ≡ f v = ap f (some-injective x v e) in omega arith
  total_one (x ∷ xs) (suc i) v e = let r = total_one xs i v e in omega arith

  pub total_two : (l : List HoldView) (i j : ℕ) (v w : HoldView) → get_elem? l i ≡ some v → get_elem? l j ≡ some w → i ≢ j → f v + f w ≤ total f l
  total_two [] i j v w e d n = absurd (some-ne-none v (sym e))
  total_two (x ∷ xs) zero zero v w e d n = absurd (n refl)
  total_two (x ∷ xs) zero (suc j) v w e d n = let is : f x ≡ f v = ap f (some-injective x v e) in let r = total_one xs j w d in omega arith
  total_two (x ∷ xs) (suc i) zero v w e d n = let is : f x ≡ f w = ap f (some-injective x w d) in let r = total_one xs i v e in omega arith
  total_two (x ∷ xs) (suc i) (suc j) v w e d n = let r = total_two xs i j v w e d (λ h. n (ap suc h)) in omega arith

  pub total_none : (l : List HoldView) → ((j : ℕ) (u : HoldView) → get_elem? l j ≡ some u → f u ≡ 0) → total f l ≡ 0
  total_none [] h = refl
  total_none (x ∷ xs) h = let a = h zero x refl in let r = total_none xs (λ j u e. h (suc j) u e) in omega arith

  -- where all but one are 0
  pub total_at : (l : List HoldView) (i : ℕ) (v : HoldView) → get_elem? l i ≡ some v → ((j : ℕ) (u : HoldView) → j ≢ i → get_elem? l j ≡ some u → f u ≡ 0) → total f l ≡ f v
  total_at [] i v e h = absurd (some-ne-none v (sym e))
  total_at (x ∷ xs) zero v e h = let is : f x ≡ f v = ap f (some-injective x v e) in let r = total_none xs (λ j u d. h (suc j) u (λ c. omega arith) d) in omega arith
  total_at (x ∷ xs) (suc i) v e h = let a = h zero x (λ c. omega arith) refl in let r = total_at xs i v e (λ j u ne d. h (suc j) u (λ c. ne (omega arith)) d) in omega arith

pub total_both : (f g : HoldView → ℕ) (l : List HoldView) → total (λ v. f v + g v) l ≡ total f l + total g l
total_both f g [] = refl
total_both f g (x ∷ xs) = let r = total_both f g xs in omega arith

-- one sum is at most another where each part is
pub total_le : (f g : HoldView → ℕ) (l : List HoldView) → ((j : ℕ) (v : HoldView) → get_elem? l j ≡ some v → f v ≤ g v) → total f l ≤ total g l
total_le f g [] h = omega arith
total_le f g (x ∷ xs) h = let here = h zero x refl in let r = total_le f g xs (λ j v e. h (suc j) v e) in omega arith

pub weight_same : (k : ℕ) → weight (eqb k k) ≡ 1
weight_same k = ap weight (eq-eqb k k refl)

pub weight_one : (j k : ℕ) → weight (eqb j k) ≤ 1
weight_one j k = dite (ℕ_discrete j k) (λ (e : j ≡ k). let a : weight (eqb j k) ≡ 1 = ap weight (eq-eqb j k e) in omega arith) (λ (n : j ≢ k). let a : weight (eqb j k) ≡ 0 = ap weight (ne_eqb j k n) in omega arith)

pub weight_other : (j k : ℕ) → j ≢ k → weight (eqb j k) ≡ 0
weight_other j k n = ap weight (ne_eqb j k n)

pub times_without_same : (k : ℕ) (xs : List ℕ) → times k (without k xs) ≡ 0
times_without_same k [] = refl
times_without_same k (x ∷ xs) = dite (ℕ_discrete x k)
    (λ e. subst (λ (b : Bool). times k (cond b (without k xs) (x ∷ without k xs)) ≡ 0) (sym (eq-eqb x k e)) (times_without_same k xs))
    (λ n. subst (λ (b : Bool). times k (cond b (without k xs) (x ∷ without k xs)) ≡ 0) (sym (ne_eqb x k n)) (let r = times_without_same k xs in let w = weight_other x k n in omega arith))

pub times_without_other : (j k : ℕ) (xs : List ℕ) → j ≢ k → times j (without k xs) ≡ times j xs
times_without_other j k [] n = refl
times_without_other j k (x ∷ xs) n = dite (ℕ_discrete x k)
    (λ e. subst (λ (b : Bool). times j (cond b (without k xs) (x ∷ without k xs)) ≡ weight (eqb x j) + times j xs) (sym (eq-eqb x k e))
    (let r = times_without_other j k xs n in let w = weight_other x j (λ h. n (omega arith)) in omega arith))
    (λ m. subst (λ (b : Bool). times j (cond b (without k xs) (x ∷ without k xs)) ≡ weight (eqb x j) + times j xs) (sym (ne_eqb x k m)) (let r = times_without_other j k xs n in omega arith))

pub below_past : (n k : ℕ) → n ≤ k → times k (below n) ≡ 0
below_past zero k h = refl
below_past (suc n) k h = let w = weight_other n k (λ e. omega arith) in let r = below_past n k (omega arith) in omega arith

pub below_has : (n k : ℕ) → k < n → times k (below n) ≡ 1
below_has zero k h = absurd (omega arith)
below_has (suc n) k h = dite (ℕ_discrete n k)
    (λ e. let w : weight (eqb n k) ≡ 1 = ap weight (eq-eqb n k e) in let r = below_past n k (omega arith) in omega arith)
    (λ m. let w = weight_other n k m in let r = below_has n k (omega arith) in omega arith)
