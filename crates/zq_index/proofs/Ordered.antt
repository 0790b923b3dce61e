-- Declarations in order stay in order through each change, and are one with any that look-ups find alike.
use Rattle.std.proofs.Common.{◌≡◌, ◌∙◌, sym, ap, subst, refl, ℕ, Bool, true, false, cond, List, [], ◌∷◌, Option, Some, None}
use Rattle.std.specs.Option.{option_map_or}
use Rattle.std.specs.declared.cmp.Ordering.{Ordering}
use Rattle.std.specs.Cmp.{IsTotalOrder}
use Rattle.std.specs.List.Sorted.{IsStrictlySortedBy}
use Rattle.std.specs.Map.{keys_of, remove_entry}
use Rattle.std.specs.BTreeMap.{is_at, insert_entry}
use Rattle.zq_message.specs.declared.message.QueryableInfoType.{QueryableInfoType}
use Rattle.zq_key.proofs.Lookups.{same_key, at_itself, found_after_insertion, found_after_removal, same_entries}
use Rattle.zq_key.proofs.Sorted.{sorted_in, sorted_out}
use Rattle.zq_index.specs.Texts.{text_cmp, at_text}
use Rattle.zq_index.specs.Holders.{TellsApart, HeldBy, IndexBy, IsOrderedBy, at_place_by, held_at, with_holding_by, without_holding_by, if_any}
use Rattle.zq_index.proofs.Orders.{text_total, text_exact}
use Rattle.zq_index.proofs.Finding.{test_text, found_with, sorted_with, found_without, sorted_without, held_if_any, if_any_some, if_any_used, inserted_used}

sorted_none : {P : Type 0} (R : P → P → Ordering) → IsStrictlySortedBy R []
unfolding IsStrictlySortedBy
sorted_none R = tt

-- no declarations are in order
pub ordered_none : {P : Type 0} (R : P → P → Ordering) → IsOrderedBy R []
ordered_none R = record {
  texts = sorted_none text_cmp;
  places = λ key hs is. absurd (let gap : None ≡ Some hs = is in cc);
  used = λ key is. let gap : None ≡ Some [] = is in cc;
}

module _ {P : Type 0} {R : P → P → Ordering} (index : IndexBy P) (ordered : IsOrderedBy R index) where
  places_by : (key : List ℕ) (o : Option (HeldBy P)) → at_text key index ≡ o → IsStrictlySortedBy R (keys_of (option_map_or (λ hs. hs) o []))
  places_by key None is = sorted_none R
  places_by key (Some hs) is = ordered.places key hs is

  pub held_sorted : (key : List ℕ) → IsStrictlySortedBy R (keys_of (held_at key index))
  held_sorted key = places_by key (at_text key index) refl

module _ {P : Type 0} {R : P → P → Ordering} (o : IsTotalOrder R) (exact : TellsApart R) where
  -- ---- a declaration
  module _ (key : List ℕ) (p : P) (i : QueryableInfoType) (index : IndexBy P) where
    with_at_by : (k : List ℕ) (q : P) (b : Bool) → test_text key k ≡ b
        → at_place_by R q (option_map_or (λ l. l) (cond b (Some (insert_entry R (held_at key index) p i)) (at_text k index)) []) ≡ cond b (cond (is_at (R p) q) (Some i) (at_place_by R q (held_at k index))) (at_place_by R q (held_at k index))
    with_at_by k q true e =
        found_after_insertion o exact p q i (held_at key index)
        ∙ ap (λ x. cond (is_at (R p) q) (Some i) (at_place_by R q (held_at x index))) (same_key text_total text_exact key k e)
    with_at_by k q false e = refl

    pub with_at : (k : List ℕ) (q : P) → at_place_by R q (held_at k (with_holding_by R key p i index)) ≡ cond (test_text key k) (cond (is_at (R p) q) (Some i) (at_place_by R q (held_at k index))) (at_place_by R q (held_at k index))
    with_at k q = ap (λ o. at_place_by R q (option_map_or (λ l. l) o [])) (found_with R key p i index k) ∙ with_at_by k q (test_text key k) refl

    module _ (ordered : IsOrderedBy R index) where
      with_places_by : (k : List ℕ) (hs : HeldBy P) (b : Bool) → cond b (Some (insert_entry R (held_at key index) p i)) (at_text k index) ≡ Some hs → IsStrictlySortedBy R (keys_of hs)
      with_places_by k hs true is =
          let same : insert_entry R (held_at key index) p i ≡ hs = let both : Some (insert_entry R (held_at key index) p i) ≡ Some hs = is in cc in
          subst (λ l. IsStrictlySortedBy R (keys_of l)) same (sorted_in o (held_at key index) p i (held_sorted index ordered key))
      with_places_by k hs false is = ordered.places k hs is

      with_used_by : (k : List ℕ) (b : Bool) → cond b (Some (insert_entry R (held_at key index) p i)) (at_text k index) ≡ Some [] → ⊥
      with_used_by k true is = inserted_used R p i (held_at key index) (let both : Some (insert_entry R (held_at key index) p i) ≡ Some [] = is in cc)
      with_used_by k false is = ordered.used k is

      pub with_ordered : IsOrderedBy R (with_holding_by R key p i index)
      with_ordered = record {
        texts = sorted_with R key p i index ordered.texts;
        places = λ k hs is. with_places_by k hs (test_text key k) (sym (found_with R key p i index k) ∙ is);
        used = λ k is. with_used_by k (test_text key k) (sym (found_with R key p i index k) ∙ is);
      }

  -- ---- a withdrawal
  module _ (key : List ℕ) (p : P) (index : IndexBy P) (ordered : IsOrderedBy R index) where
    abbrev left : HeldBy P
    left = remove_entry (is_at (R p)) (held_at key index)

    without_at_by : (k : List ℕ) (q : P) (b : Bool) → test_text key k ≡ b
        → at_place_by R q (option_map_or (λ l. l) (cond b (if_any left) (at_text k index)) []) ≡ cond b (cond (is_at (R p) q) None (at_place_by R q (held_at k index))) (at_place_by R q (held_at k index))
    without_at_by k q true e =
        ap (at_place_by R q) (held_if_any left)
        ∙ found_after_removal o exact p q (held_at key index) (held_sorted index ordered key)
        ∙ ap (λ x. cond (is_at (R p) q) None (at_place_by R q (held_at x index))) (same_key text_total text_exact key k e)
    without_at_by k q false e = refl

    pub without_at : (k : List ℕ) (q : P) → at_place_by R q (held_at k (without_holding_by R key p index)) ≡ cond (test_text key k) (cond (is_at (R p) q) None (at_place_by R q (held_at k index))) (at_place_by R q (held_at k index))
    without_at k q = ap (λ o. at_place_by R q (option_map_or (λ l. l) o [])) (found_without R key p index k ordered.texts) ∙ without_at_by k q (test_text key k) refl

    without_places_by : (k : List ℕ) (hs : HeldBy P) (b : Bool) → cond b (if_any left) (at_text k index) ≡ Some hs → IsStrictlySortedBy R (keys_of hs)
    without_places_by k hs true is = subst (λ l. IsStrictlySortedBy R (keys_of l)) (if_any_some left hs is) (sorted_out R (is_at (R p)) (held_at key index) (held_sorted index ordered key))
    without_places_by k hs false is = ordered.places k hs is

    without_used_by : (k : List ℕ) (b : Bool) → cond b (if_any left) (at_text k index) ≡ Some [] → ⊥
    without_used_by k true is = if_any_used left is
    without_used_by k false is = ordered.used k is

    pub without_ordered : IsOrderedBy R (without_holding_by R key p index)
    without_ordered = record {
      texts = sorted_without R key p index ordered.texts;
      places = λ k hs is. without_places_by k hs (test_text key k) (sym (found_without R key p index k ordered.texts) ∙ is);
      used = λ k is. without_used_by k (test_text key k) (sym (found_without R key p index k ordered.texts) ∙ is);
    }

  -- ---- what look-ups find alike is one
  none_held : (hs : HeldBy P) → ((p : P) → None ≡ at_place_by R p hs) → hs ≡ []
  none_held [] none = refl
  none_held (h ∷ hs) none = absurd (let gap : None ≡ Some h.1 = none h.0 ∙ ap (λ b. cond b (Some h.1) (at_place_by R h.0 hs)) (at_itself o exact h.0) in cc)

  module _ (a b : IndexBy P) (first : IsOrderedBy R a) (second : IsOrderedBy R b) (alike : (key : List ℕ) (p : P) → at_place_by R p (held_at key a) ≡ at_place_by R p (held_at key b)) where
    texts_by : (key : List ℕ) (x y : Option (HeldBy P)) → at_text key a ≡ x → at_text key b ≡ y
        → ((p : P) → at_place_by R p (option_map_or (λ hs. hs) x []) ≡ at_place_by R p (option_map_or (λ hs. hs) y [])) → x ≡ y
    texts_by key None None is it same = refl
    texts_by key (Some hs) (Some ls) is it same = ap (λ l. Some l) (same_entries o exact hs ls (first.places key hs is) (second.places key ls it) same)
    texts_by key None (Some ls) is it same = absurd (second.used key (it ∙ ap (λ l. Some l) (none_held ls same)))
    texts_by key (Some hs) None is it same = absurd (first.used key (is ∙ ap (λ l. Some l) (none_held hs (λ p. sym (same p)))))

    pub same_index : a ≡ b
    same_index = same_entries text_total text_exact a b first.texts second.texts (λ key. texts_by key (at_text key a) (at_text key b) refl refl (alike key))
