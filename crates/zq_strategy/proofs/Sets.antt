-- Keys in order from which one is taken out.
use Rattle.std.proofs.Common.{◌≡◌, Bool, true, false, cond, List, [], ◌∷◌, ap, ◌∙◌, refl, sym, subst}
use Rattle.std.specs.Prelude.{◌||◌}
use Rattle.std.specs.declared.cmp.Ordering.{Ordering}
use Rattle.std.specs.declared.cmp.Ordering.TheVariants.{Less}
use Rattle.std.specs.Ordering.{is_eq}
use Rattle.std.specs.Cmp.{IsTotalOrder}
use Rattle.std.specs.List.{AllByRecursion, list_any}
use Rattle.std.specs.List.Sorted.{IsStrictlySortedBy}
use Rattle.std.specs.Set.{remove_key}
use Rattle.std.specs.BTreeMap.{is_at}
use Rattle.std.proofs.lemmas.Map.Keys.{sorted_head, sorted_tail}
use Rattle.std.proofs.lemmas.Map.Lookups.{CmpEqualImpliesEq}
use Rattle.zq_key.proofs.Lookups.{either_way, same_key}

module _ {K : Type 0} (R : K → K → Ordering) (test : K → Bool) where
  all_out_by : (P : K → Type 0) (x : K) (xs : List K) (b : Bool) → AllByRecursion P (x ∷ xs) → AllByRecursion P (remove_key test xs) → AllByRecursion P (cond b xs (x ∷ remove_key test xs))
  all_out_by P x xs true all ih = all.1
  all_out_by P x xs false all ih = (all.0, ih)

  all_out : (P : K → Type 0) (xs : List K) → AllByRecursion P xs → AllByRecursion P (remove_key test xs)
  all_out P [] all = tt
  all_out P (x ∷ xs) all = all_out_by P x xs (test x) all (all_out P xs all.1)

  sorted_by : (x : K) (xs : List K) (b : Bool) → IsStrictlySortedBy R (x ∷ xs) → IsStrictlySortedBy R (remove_key test xs) → IsStrictlySortedBy R (cond b xs (x ∷ remove_key test xs))
  unfolding IsStrictlySortedBy
  sorted_by x xs true s ih = s.1
  sorted_by x xs false s ih = (all_out (λ y. R x y ≡ Less) xs s.0, ih)

  -- the others stay in order
  pub sorted_left : (xs : List K) → IsStrictlySortedBy R xs → IsStrictlySortedBy R (remove_key test xs)
  sorted_left [] s = s
  sorted_left (x ∷ xs) s = sorted_by x xs (test x) s (sorted_left xs (sorted_tail R x xs s))

module _ {K : Type 0} {R : K → K → Ordering} (o : IsTotalOrder R) (exact : CmpEqualImpliesEq R) where
  pub none_after : (k : K) (xs : List K) → AllByRecursion (λ y. R k y ≡ Less) xs → list_any (is_at (R k)) xs ≡ false
  none_after k [] all = refl
  none_after k (x ∷ xs) all = ap (λ r. is_eq r || list_any (is_at (R k)) xs) all.0 ∙ none_after k xs all.1

  module _ (k q : K) where
    first_by : (x : K) (xs : List K) (c : Bool) → is_at (R k) q ≡ c → k ≡ x → AllByRecursion (λ y. R x y ≡ Less) xs → list_any (is_at (R q)) xs ≡ cond c false (is_at (R q) x || list_any (is_at (R q)) xs)
    first_by x xs true at is above =
        let same : x ≡ q = sym is ∙ same_key o exact k q at in
        subst (λ z. list_any (is_at (R z)) xs ≡ false) same (none_after x xs above)
    first_by x xs false at is above = ap (λ b. b || list_any (is_at (R q)) xs) (sym (ap (is_at (R q)) (sym is) ∙ either_way o exact q k ∙ at))

    later_by : (x : K) (xs : List K) (c : Bool) → is_at (R k) q ≡ c → is_at (R k) x ≡ false → (is_at (R q) x || cond c false (list_any (is_at (R q)) xs)) ≡ cond c false (is_at (R q) x || list_any (is_at (R q)) xs)
    later_by x xs true at apart =
        let same : k ≡ q = same_key o exact k q at in
        ap (λ b. b || false) (ap (λ z. is_at (R z) x) (sym same) ∙ apart)
    later_by x xs false at apart = refl

    out_by : (x : K) (xs : List K) (b : Bool) → is_at (R k) x ≡ b → AllByRecursion (λ y. R x y ≡ Less) xs
        → list_any (is_at (R q)) (remove_key (is_at (R k)) xs) ≡ cond (is_at (R k) q) false (list_any (is_at (R q)) xs)
        → list_any (is_at (R q)) (cond b xs (x ∷ remove_key (is_at (R k)) xs)) ≡ cond (is_at (R k) q) false (is_at (R q) x || list_any (is_at (R q)) xs)
    out_by x xs true at above ih = first_by x xs (is_at (R k) q) refl (same_key o exact k x at) above
    out_by x xs false at above ih = ap (λ b. is_at (R q) x || b) ih ∙ later_by x xs (is_at (R k) q) refl at

    out_none : (c : Bool) → false ≡ cond c false false
    out_none true = refl
    out_none false = refl

    -- what is among the keys after one is taken out
    pub has_left : (xs : List K) → IsStrictlySortedBy R xs → list_any (is_at (R q)) (remove_key (is_at (R k)) xs) ≡ cond (is_at (R k) q) false (list_any (is_at (R q)) xs)
    has_left [] s = out_none (is_at (R k) q)
    has_left (x ∷ xs) s = out_by x xs (is_at (R k) x) refl (sorted_head R x xs s) (has_left xs (sorted_tail R x xs s))
