-- A hash map's entries in order of their numbers.
use Rattle.std.proofs.Common.{◌≡◌, ℕ, Bool, true, false, cond, List, [], ◌∷◌, Option, Some, None, refl, sym, ap, subst, ◌∙◌, eqb-true}
use Rattle.std.specs.Prelude.{nat_eq, fold}
use Rattle.std.specs.Option.{IsSome}
use Rattle.std.specs.List.{AllByRecursion, IsDistinct}
use Rattle.std.specs.List.Sorted.{IsStrictlySortedBy}
use Rattle.std.specs.Map.{keys_of, lookup, remove_entry, set_value}
use Rattle.std.specs.BTreeMap.{is_at, insert_entry}
use Rattle.std.specs.Ordering.{nat_cmp}
use Rattle.std.specs.Cmp.{nat_cmp_total, nat_eq_equiv}
use Rattle.std.proofs.lemmas.Map.Keys.{IsDistinct-head, IsDistinct-tail}
use Rattle.std.proofs.lemmas.Map.Lookups.{exact_unsigned}
use Rattle.zq_key.proofs.Lookups.{same_key, at_itself, same_entries, found_after_insertion, found_after_removal, found_after_write}
use Rattle.zq_key.proofs.Sorted.{sorted_in, sorted_out}
use Rattle.std.proofs.lemmas.Map.{keys-set_value}
use Rattle.zq_query.specs.ByNumber.{in_order}
use Rattle.zq_query.specs.Tables.{at_number}

both_ways : (a b : Bool) → (a ≡ true → b ≡ true) → (b ≡ true → a ≡ true) → a ≡ b
both_ways true b f g = sym (f refl)
both_ways false true f g = g refl
both_ways false false f g = refl

-- the two tests for a number are one
same_test : (k q : ℕ) → nat_eq k q ≡ is_at (nat_cmp k) q
same_test k q = both_ways _ _
    (λ h. subst (λ x. is_at (nat_cmp k) x ≡ true) (eqb-true _ _ h) (at_itself nat_cmp_total exact_unsigned k))
    (λ h. subst (λ x. nat_eq k x ≡ true) (same_key nat_cmp_total exact_unsigned k q h) (nat_eq_equiv.refl k))

sorted_none : IsStrictlySortedBy nat_cmp []
unfolding IsStrictlySortedBy
sorted_none = tt

module _ {X : Type 0} where
  over : Option X → Option X → Option X
  over None r = r
  over (Some v) r = Some v

  over_none : (o : Option X) → over o None ≡ o
  unfolding over
  over_none None = refl
  over_none (Some v) = refl

  over_by : (b : Bool) (later r : Option X) (v : X) → (b ≡ true → later ≡ None) → over later (cond b (Some v) r) ≡ over (cond b (Some v) later) r
  unfolding over
  over_by true later r v none = ap (λ o. over o (Some v)) (none refl)
  over_by false later r v none = refl

  none_among : (test : ℕ → Bool) (es : List (ℕ × X)) → AllByRecursion (λ k. test k ≡ false) (keys_of es) → lookup test es ≡ None
  none_among test [] a = refl
  none_among test (e ∷ es) a = rw a.0 (none_among test es a.1)

  abbrev folded : List (ℕ × X) → List (ℕ × X) → List (ℕ × X)
  folded l es = fold (λ l e. insert_entry nat_cmp l e.0 e.1) l es

  at_folded : (q : ℕ) (l es : List (ℕ × X)) → IsDistinct nat_eq (keys_of es) → at_number q (folded l es) ≡ over (lookup (nat_eq q) es) (at_number q l)
  unfolding over
  at_folded q l [] d = refl
  at_folded q l (e ∷ es) d =
      at_folded q (insert_entry nat_cmp l e.0 e.1) es (IsDistinct-tail nat_eq e.0 (keys_of es) d)
      ∙ ap (over (lookup (nat_eq q) es)) (found_after_insertion nat_cmp_total exact_unsigned e.0 q e.1 l ∙ ap (λ b. cond b (Some e.1) (at_number q l)) (sym (same_test e.0 q) ∙ nat_eq_equiv.symm e.0 q))
      ∙ over_by (nat_eq q e.0) (lookup (nat_eq q) es) (at_number q l) e.1 (λ same. ap (λ k. lookup (nat_eq k) es) (eqb-true q e.0 same) ∙ none_among (nat_eq e.0) es (IsDistinct-head nat_eq e.0 (keys_of es) d))

  sorted_folded : (l es : List (ℕ × X)) → IsStrictlySortedBy nat_cmp (keys_of l) → IsStrictlySortedBy nat_cmp (keys_of (folded l es))
  sorted_folded l [] s = s
  sorted_folded l (e ∷ es) s = sorted_folded (insert_entry nat_cmp l e.0 e.1) es (sorted_in nat_cmp_total l e.0 e.1 s)

  pub sorted_in_order : (es : List (ℕ × X)) → IsStrictlySortedBy nat_cmp (keys_of (in_order es))
  sorted_in_order es = sorted_folded [] es sorted_none

  -- what stands at a number
  pub at_in_order : (q : ℕ) (es : List (ℕ × X)) → IsDistinct nat_eq (keys_of es) → at_number q (in_order es) ≡ lookup (nat_eq q) es
  at_in_order q es d = at_folded q [] es d ∙ over_none (lookup (nat_eq q) es)

  module _ (es fs : List (ℕ × X)) (d : IsDistinct nat_eq (keys_of es)) (f : IsDistinct nat_eq (keys_of fs)) where
    -- the same stands at each number
    pub same_in_order : ((q : ℕ) → lookup (nat_eq q) fs ≡ lookup (nat_eq q) es) → in_order fs ≡ in_order es
    same_in_order h = same_entries nat_cmp_total exact_unsigned (in_order fs) (in_order es) (sorted_in_order fs) (sorted_in_order es)
        (λ q. at_in_order q fs f ∙ h q ∙ sym (at_in_order q es d))

    -- one more value
    pub put_in_order : (k : ℕ) (v : X) → ((q : ℕ) → lookup (nat_eq q) fs ≡ cond (nat_eq k q) (Some v) (lookup (nat_eq q) es)) → in_order fs ≡ insert_entry nat_cmp (in_order es) k v
    put_in_order k v h = same_entries nat_cmp_total exact_unsigned (in_order fs) (insert_entry nat_cmp (in_order es) k v) (sorted_in_order fs) (sorted_in nat_cmp_total (in_order es) k v (sorted_in_order es))
        (λ q. at_in_order q fs f ∙ h q ∙ (λ j. cond (same_test k q j) (Some v) (sym (at_in_order q es d) j)) ∙ sym (found_after_insertion nat_cmp_total exact_unsigned k q v (in_order es)))

    -- one value less
    pub take_in_order : (k : ℕ) → ((q : ℕ) → lookup (nat_eq q) fs ≡ cond (nat_eq k q) None (lookup (nat_eq q) es)) → in_order fs ≡ remove_entry (is_at (nat_cmp k)) (in_order es)
    take_in_order k h = same_entries nat_cmp_total exact_unsigned (in_order fs) (remove_entry (is_at (nat_cmp k)) (in_order es)) (sorted_in_order fs) (sorted_out nat_cmp (is_at (nat_cmp k)) (in_order es) (sorted_in_order es))
        (λ q. at_in_order q fs f ∙ h q ∙ (λ j. cond (same_test k q j) None (sym (at_in_order q es d) j)) ∙ sym (found_after_removal nat_cmp_total exact_unsigned k q (in_order es) (sorted_in_order es)))

    -- another value at a number that has one
    pub set_in_order : (k : ℕ) (v : X) → IsSome (at_number k (in_order es)) → ((q : ℕ) → lookup (nat_eq q) fs ≡ cond (nat_eq k q) (Some v) (lookup (nat_eq q) es)) → in_order fs ≡ set_value (is_at (nat_cmp k)) (in_order es) v
    set_in_order k v some h = same_entries nat_cmp_total exact_unsigned (in_order fs) (set_value (is_at (nat_cmp k)) (in_order es) v) (sorted_in_order fs)
        (subst (IsStrictlySortedBy nat_cmp) (sym (keys-set_value (is_at (nat_cmp k)) (in_order es) v)) (sorted_in_order es))
        (λ q. at_in_order q fs f ∙ h q ∙ (λ j. cond (same_test k q j) (Some v) (sym (at_in_order q es d) j)) ∙ sym (found_after_write nat_cmp_total exact_unsigned k q v (in_order es) some))
