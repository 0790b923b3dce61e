-- What is asked under other ids, and what is asked once an interest ended or stands.
use Rattle.std.proofs.Common.{◌≡◌, ◌∙◌, sym, ap, refl, ℕ, Bool, true, false, cond, List, [], ◌∷◌, Some, None, Option}
use Rattle.std.specs.Prelude.{not, ◌&&◌, ◌||◌}
use Rattle.std.specs.BTreeMap.{insert_entry, is_at}
use Rattle.std.specs.Cmp.{nat_cmp_total}
use Rattle.std.specs.List.{AllByRecursion, list_any}
use Rattle.std.specs.List.Sorted.{IsStrictlySortedBy}
use Rattle.std.specs.Map.{keys_of, remove_entry}
use Rattle.std.specs.Option.{is_some, option_map_or}
use Rattle.std.specs.Ordering.{is_eq, match_ordering, nat_cmp}
use Rattle.std.specs.declared.cmp.Ordering.{Ordering}
use Rattle.std.specs.declared.cmp.Ordering.TheVariants.{Less, Equal, Greater}
use Rattle.std.proofs.lemmas.Map.Keys.{sorted_head, sorted_tail}
use Rattle.std.proofs.lemmas.Map.Lookups.{exact_unsigned}
use Rattle.zq_key.proofs.Lookups.{at_itself, found_after_insertion, found_after_write, same_key}
use Rattle.zq_key.proofs.Truth.{or_swap}
use Rattle.zq_interests.specs.declared.types.InterestEntry.{InterestEntry}
use Rattle.zq_interests.specs.Interests.{Asked, Interests, at, interests_of, with_interest, without_interest}
use Rattle.zq_interests.proofs.Writing.{not_written}

module _ {X : Type 0} (test : ℕ × X → Bool) (k : ℕ) where
  -- an entry under another number passes
  abbrev pub other : ℕ × X → Bool
  other e = not (is_at (nat_cmp k) e.0) && test e

  all_other : (es : List (ℕ × X)) → AllByRecursion (λ q. nat_cmp k q ≡ Less) (keys_of es) → list_any other es ≡ list_any test es
  all_other [] all = refl
  all_other (e ∷ es) all = λ i. (not (is_eq (all.0 i)) && test e) || all_other es all.1 i

  chain : (q : ℕ) (ks : List ℕ) → nat_cmp k q ≡ Less → AllByRecursion (λ z. nat_cmp q z ≡ Less) ks → AllByRecursion (λ z. nat_cmp k z ≡ Less) ks
  chain q [] l all = tt
  chain q (x ∷ ks) l all = (nat_cmp_total.trans k q x l all.0, chain q ks l all.1)

  same_above : (q : ℕ) (ks : List ℕ) → k ≡ q → AllByRecursion (λ z. nat_cmp q z ≡ Less) ks → AllByRecursion (λ z. nat_cmp k z ≡ Less) ks
  same_above q [] e all = tt
  same_above q (x ∷ ks) e all = (ap (λ m. nat_cmp m x) e ∙ all.0, same_above q ks e all.1)

  pub any_left : (es : List (ℕ × X)) → IsStrictlySortedBy nat_cmp (keys_of es) → list_any test (remove_entry (is_at (nat_cmp k)) es) ≡ list_any other es
  any_left [] s = refl
  any_left (e ∷ es) s = by (is_at (nat_cmp k) e.0) refl (any_left es (sorted_tail nat_cmp e.0 (keys_of es) s))
    where
      by : (b : Bool) → is_at (nat_cmp k) e.0 ≡ b → list_any test (remove_entry (is_at (nat_cmp k)) es) ≡ list_any other es → list_any test (cond b es (e ∷ remove_entry (is_at (nat_cmp k)) es)) ≡ ((not b && test e) || list_any other es)
      by true is ih = sym (all_other es (same_above e.0 (keys_of es) (same_key nat_cmp_total exact_unsigned k e.0 is) (sorted_head nat_cmp e.0 (keys_of es) s)))
      by false is ih = ap (λ b. test e || b) ih

  pub any_put : (v : X) (es : List (ℕ × X)) → IsStrictlySortedBy nat_cmp (keys_of es) → list_any test (insert_entry nat_cmp es k v) ≡ (test (k, v) || list_any other es)
  any_put v [] s = refl
  any_put v (e ∷ es) s = by (nat_cmp k e.0) refl (any_put v es (sorted_tail nat_cmp e.0 (keys_of es) s))
    where
      head : AllByRecursion (λ z. nat_cmp e.0 z ≡ Less) (keys_of es)
      head = sorted_head nat_cmp e.0 (keys_of es) s

      by : (r : Ordering) → nat_cmp k e.0 ≡ r → list_any test (insert_entry nat_cmp es k v) ≡ (test (k, v) || list_any other es)
          → list_any test (match_ordering r ((k, v) ∷ e ∷ es) ((e.0, v) ∷ es) (e ∷ insert_entry nat_cmp es k v)) ≡ (test (k, v) || ((not (is_eq r) && test e) || list_any other es))
      by Less is ih = ap (λ b. test (k, v) || (test e || b)) (sym (all_other es (chain e.0 (keys_of es) is head)))
      by Equal is ih =
          let same : k ≡ e.0 = exact_unsigned k e.0 is in
          ap (λ m. test (m, v) || list_any test es) (sym same) ∙ ap (λ b. test (k, v) || b) (sym (all_other es (same_above e.0 (keys_of es) same head)))
      by Greater is ih = ap (λ b. test e || b) ih ∙ or_swap (test e) (test (k, v)) (list_any other es)

  pub any_with : (v : X) (es : List (ℕ × X)) → IsStrictlySortedBy nat_cmp (keys_of es) → list_any test (insert_entry nat_cmp es k v) ≡ (test (k, v) || list_any test (remove_entry (is_at (nat_cmp k)) es))
  any_with v es s = any_put v es s ∙ ap (λ b. test (k, v) || b) (sym (any_left es s))

-- ---- the interests of a face
abbrev listed : Option Asked → Asked
listed o = option_map_or (λ (es : Asked). es) o []

listed_if : (b : Bool) (es : Asked) (o : Option Asked) → listed (cond b (Some es) o) ≡ cond b es (listed o)
listed_if true es o = refl
listed_if false es o = refl

module _ (ints : Interests) (face id : ℕ) where
  abbrev left : Asked
  left = remove_entry (is_at (nat_cmp id)) (interests_of face ints)

  -- what the face asks once an interest ended
  pub left_of : interests_of face (without_interest face id ints) ≡ left
  left_of = by (at face ints) refl
    where
      by : (o : Option Asked) → at face ints ≡ o → interests_of face (without_interest face id ints) ≡ left
      by None is =
          ap (interests_of face) (not_written (is_at (nat_cmp face)) left ints is) ∙ ap listed is ∙ sym (ap (λ o. remove_entry (is_at (nat_cmp id)) (listed o)) is)
      by (Some es) is =
          ap listed (found_after_write nat_cmp_total exact_unsigned face face left ints (ap is_some is))
          ∙ ap (λ b. listed (cond b (Some left) (at face ints))) (at_itself nat_cmp_total exact_unsigned face)

  -- what a face asks once an interest stands
  module _ (entry : InterestEntry) where
    abbrev put : Asked
    put = insert_entry nat_cmp (interests_of face ints) id entry

    put_at : (f : ℕ) → interests_of f (with_interest face id entry ints) ≡ cond (is_at (nat_cmp face) f) put (interests_of f ints)
    put_at f = ap listed (found_after_insertion nat_cmp_total exact_unsigned face f put ints) ∙ listed_if (is_at (nat_cmp face) f) put (at f ints)

    pub put_of : interests_of face (with_interest face id entry ints) ≡ put
    put_of = put_at face ∙ ap (λ b. cond b put (interests_of face ints)) (at_itself nat_cmp_total exact_unsigned face)

    pub others_of : (f : ℕ) → is_at (nat_cmp face) f ≡ false → interests_of f (with_interest face id entry ints) ≡ interests_of f ints
    others_of f other = put_at f ∙ ap (λ b. cond b put (interests_of f ints)) other
