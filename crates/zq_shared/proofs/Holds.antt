-- What a seat holds, one slot less.
use Rattle.std.proofs.Common.{◌≡◌, ◌≢◌, ℕ, ◌<◌, ◌≤◌, List, [], ◌∷◌, ◌++◌, eqb, refl, sym, ap, ◌∙◌, subst, arith}
use mathlib.Core.Logic.{dite}
use native.Mathlib.Decide.{ℕ_discrete}
use Rattle.zq_hold.specs.declared.slot.Slot.{Slot}
use Rattle.zq_hold.specs.Slots.{times, weight, without}
use Rattle.zq_hold.proofs.Totals.{times_without_same, times_without_other, weight_same, weight_other}
use Rattle.zq_shared.specs.Holding.{AreHeld, places}
use Rattle.zq_shared.proofs.Holding.{places_push}

none_held : (held : List ℕ) → ((k : ℕ) → times k held ≡ 0) → held ≡ []
none_held [] h = refl
none_held (x ∷ xs) h = absurd (let one = weight_same x in let z = h x in omega arith)

-- nothing is held where no slots are
pub all_released : (held : List ℕ) → AreHeld [] held → held ≡ []
all_released held h = none_held held h

module _ (all hs : List Slot) (h : Slot) (held : List ℕ) (is : all ≡ hs ++ h ∷ []) (are : AreHeld all held) where
  pub last_held : 0 < times h.0 held
  last_held =
      let one = weight_same h.0 in
      let push = ap (λ (l : List Slot). times h.0 (places l)) is ∙ places_push h.0 hs h in
      let was = are h.0 in
      omega arith

  one_less : (j : ℕ) → times j (without h.0 held) ≤ times j held
  one_less j = dite (ℕ_discrete j h.0)
      (λ (e : j ≡ h.0). let gone = subst (λ i. times i (without h.0 held) ≡ 0) (sym e) (times_without_same h.0 held) in omega arith)
      (λ (n : j ≢ h.0). let same = times_without_other j h.0 held n in omega arith)

  module _ (once : (k : ℕ) → times k held ≤ 1) where
    pub rest_held : AreHeld hs (without h.0 held)
    rest_held j =
        let push = ap (λ (l : List Slot). times j (places l)) is ∙ places_push j hs h in
        let was = are j in
        let few = once j in
        dite (ℕ_discrete j h.0)
        (λ (e : j ≡ h.0).
        let gone = subst (λ i. times i (without h.0 held) ≡ 0) (sym e) (times_without_same h.0 held) in
        let one = subst (λ i. weight (eqb i j) ≡ 1) e (weight_same j) in
        omega arith)
        (λ (n : j ≢ h.0).
        let same = times_without_other j h.0 held n in
        let none = weight_other h.0 j (λ (e : h.0 ≡ j). n (sym e)) in
        omega arith)

    pub rest_once : (j : ℕ) → times j (without h.0 held) ≤ 1
    rest_once j = let less = one_less j in let few = once j in omega arith
