-- Of the gateways of one list, none carries what one of them asked, and else the greatest alone.
use Rattle.std.proofs.Common.{◌≡◌, ◌∙◌, sym, ap, refl, subst, arith, ℕ, ◌≤◌, cond, Bool, true, false, List, [], ◌∷◌, Some, eqb-true, true≢false, ◌⊎◌, inl, inr, fold, ◌↔◌}
use Rattle.std.specs.Prelude.{not, ◌&&◌, ◌||◌, ◌==◌, max}
use Rattle.std.specs.Cmp.{nat_eq_equiv, second_so}
use Rattle.zq_message.specs.declared.message.Zid.{Zid}
use Rattle.zq_route.specs.declared.filter.InterRegionFilter.{InterRegionFilter}
use Rattle.zq_route.specs.declared.gateways.Gateways.{Gateways}
use Rattle.zq_route.specs.Filter.{is_zid, has_zid, greatest, carries, gateways_of, passes_between, Decide, IsGreatest}

abbrev step : ℕ → Zid → ℕ
step m z = max m z.0

not_below : (m : ℕ) (zs : List Zid) → m ≤ fold step m zs
not_below m [] = omega arith
not_below m (z ∷ zs) = let more = not_below (max m z.0) zs in omega (arith, more)

above_all : (m : ℕ) (zs : List Zid) (zid : Zid) → has_zid zid zs ≡ true → zid.0 ≤ fold step m zs
above_all m [] zid e = absurd (true≢false (sym e))
above_all m (z ∷ zs) zid e = cases (is_zid zid z) refl e (above_all (max m z.0) zs zid)
  where
    cases : (b : Bool) → is_zid zid z ≡ b → (b || has_zid zid zs) ≡ true → (has_zid zid zs ≡ true → zid.0 ≤ fold step (max m z.0) zs) → zid.0 ≤ fold step (max m z.0) zs
    cases true here e more = let same : zid.0 ≡ z.0 = eqb-true _ _ here in let below = not_below (max m z.0) zs in omega (arith, same, below)
    cases false here e more = more e

attained : (m : ℕ) (zs : List Zid) (zid : Zid) → fold step m zs ≡ zid.0 → (m ≡ zid.0) ⊎ (has_zid zid zs ≡ true)
attained m [] zid e = inl e
attained m (z ∷ zs) zid e = cases (is_zid zid z) refl (attained (max m z.0) zs zid e)
  where
    larger : (is_zid zid z ≡ false) → max m z.0 ≡ zid.0 → m ≡ zid.0
    larger apart is = let other : zid.0 ≡ z.0 → ⊥ = (λ same. true≢false (sym (subst (λ n. (n == z.0) ≡ true) (sym same) (nat_eq_equiv.refl z.0)) ∙ apart)) in omega (arith, is)

    cases : (b : Bool) → is_zid zid z ≡ b → (max m z.0 ≡ zid.0) ⊎ (has_zid zid zs ≡ true) → (m ≡ zid.0) ⊎ ((b || has_zid zid zs) ≡ true)
    cases true here found = inr refl
    cases false here (inl is) = inl (larger here is)
    cases false here (inr there) = inr there

listed_fails : (z : Zid) (zs : List Zid) (src own : Zid) → has_zid src (z ∷ zs) ≡ true → carries (Some (z ∷ zs)) (Some src) own ≡ false
listed_fails z zs src own e = ap (λ b. not b && (greatest (z ∷ zs) == own.0)) e

passes : (z : Zid) (zs : List Zid) (src own : Zid) → has_zid src (z ∷ zs) ≡ false → greatest (z ∷ zs) ≡ own.0 → carries (Some (z ∷ zs)) (Some src) own ≡ true
passes z zs src own e is = ap (λ b. not b && (greatest (z ∷ zs) == own.0)) e ∙ ap (λ n. n == own.0) is ∙ nat_eq_equiv.refl own.0

here : (own z : Zid) (zs : List Zid) → (max 0 z.0 ≡ own.0) ⊎ (has_zid own zs ≡ true) → has_zid own (z ∷ zs) ≡ true
here own z zs (inl is) =
    let same : own.0 ≡ z.0 = omega (arith, is) in
    ap (λ b. b || has_zid own zs) (subst (λ n. (n == z.0) ≡ true) (sym same) (nat_eq_equiv.refl z.0))
here own z zs (inr there) = cases (is_zid own z)
  where
    cases : (b : Bool) → (b || has_zid own zs) ≡ true
    cases true = refl
    cases false = there

greatest_from : (z : Zid) (zs : List Zid) (own : Zid) → greatest (z ∷ zs) ≡ own.0 → IsGreatest own (z ∷ zs)
greatest_from z zs own is = record {
  member = here own z zs (attained (max 0 z.0) zs own is);
  above = λ zid e. let below = above_all 0 (z ∷ zs) zid e in omega (arith, below, is);
}

greatest_is : (z : Zid) (zs : List Zid) (own : Zid) → IsGreatest own (z ∷ zs) → greatest (z ∷ zs) ≡ own.0
greatest_is z zs own g =
    let top : Zid = record { 0 = greatest (z ∷ zs) } in
    let low = g.above top (here top z zs (attained (max 0 z.0) zs top refl)) in
    let high = above_all 0 (z ∷ zs) own g.member in
    omega (arith, low, high)

only_greatest : (z : Zid) (zs : List Zid) (src own : Zid) → has_zid src (z ∷ zs) ≡ false → (carries (Some (z ∷ zs)) (Some src) own ≡ true) ↔ IsGreatest own (z ∷ zs)
only_greatest z zs src own e =
    ((λ c. greatest_from z zs own (eqb-true _ _ (second_so _ _ c))), (λ g. passes z zs src own e (greatest_is z zs own g)))

-- where a list decides
decided : (f : InterRegionFilter) (tables : List (ℕ × Gateways)) (own src : Zid) (zids : List Zid) → Decide f tables src zids → passes_between f tables own ≡ carries (Some zids) (Some src) own
decided f tables own src zids d =
    ap (λ b. cond b true (carries (gateways_of f tables) f.src_zid own)) d.bounds ∙ (λ j. carries (d.list j) (d.source j) own)

pub listed_source : (f : InterRegionFilter) (tables : List (ℕ × Gateways)) (own src : Zid) (zids : List Zid) → Decide f tables src zids → has_zid src zids ≡ true → passes_between f tables own ≡ false
listed_source f tables own src [] d h = absurd (true≢false (sym h))
listed_source f tables own src (z ∷ zs) d h = decided f tables own src (z ∷ zs) d ∙ listed_fails z zs src own h

pub greatest_alone : (f : InterRegionFilter) (tables : List (ℕ × Gateways)) (own src : Zid) (zids : List Zid) → Decide f tables src zids → has_zid src zids ≡ false → (passes_between f tables own ≡ true) ↔ IsGreatest own zids
greatest_alone f tables own src [] d h = let s = d.some in absurd (omega (arith, s))
greatest_alone f tables own src (z ∷ zs) d h = subst (λ b. (b ≡ true) ↔ IsGreatest own (z ∷ zs)) (sym (decided f tables own src (z ∷ zs) d)) (only_greatest z zs src own h)
