-- The index keeps to what the faces declared, through each change.
use Rattle.std.proofs.Common.{◌≡◌, ℕ, Bool, true, false, cond, List, [], ◌∷◌, ap, ◌∙◌, refl, Some, None, Option, sym}
use Rattle.std.specs.Option.{IsSome, is_some, option_map_or}
use Rattle.std.specs.declared.cmp.Ordering.{Ordering}
use Rattle.std.specs.declared.cmp.Ordering.TheVariants.{Less, Equal, Greater}
use Rattle.std.specs.Ordering.{match_ordering}
use Rattle.std.specs.List.Sorted.{IsStrictlySortedBy}
use Rattle.std.specs.Map.{keys_of, remove_entry, set_value}
use Rattle.std.specs.BTreeMap.{is_at, insert_entry}
use Rattle.zq_message.specs.declared.message.QueryableInfoType.{QueryableInfoType}
use Rattle.zq_index.specs.Texts.{text_cmp, at_text}
use Rattle.zq_index.specs.Holders.{HeldBy, IndexBy, held_at, with_holding_by, with_holdings, without_holding_by, if_any}
use Rattle.zq_index.proofs.Orders.{text_total, text_exact}
use Rattle.zq_key.proofs.Lookups.{same_key, found_after_removal, found_after_write, found_after_insertion}
use Rattle.zq_key.proofs.Sorted.{sorted_in, sorted_write, sorted_out}

abbrev pub test_text : List ℕ → List ℕ → Bool
test_text key k = is_at (text_cmp key) k

pub held_if_any : {H : Type 0} (hs : List H) → option_map_or (λ l. l) (if_any hs) [] ≡ hs
held_if_any [] = refl
held_if_any (h ∷ hs) = refl

pub if_any_some : {H : Type 0} (hs ls : List H) → if_any hs ≡ Some ls → hs ≡ ls
if_any_some [] ls e = absurd (let gap : None ≡ Some ls = e in cc)
if_any_some (h ∷ hs) ls e = let same : Some (h ∷ hs) ≡ Some ls = e in cc

pub if_any_used : {H : Type 0} (hs : List H) → if_any hs ≡ Some [] → ⊥
if_any_used [] e = absurd (let gap : None ≡ Some [] = e in cc)
if_any_used (h ∷ hs) e = absurd (let gap : Some (h ∷ hs) ≡ Some [] = e in cc)

-- ---- what the index says after a change
module _ {P : Type 0} (R : P → P → Ordering) where
  module _ (key : List ℕ) (p : P) (i : QueryableInfoType) (index : IndexBy P) where
    with_by : (k : List ℕ) (o : Option (HeldBy P)) → at_text key index ≡ o
        → at_text k (option_map_or (λ hs. set_value (is_at (text_cmp key)) index (insert_entry R hs p i)) o (insert_entry text_cmp index key ((p, i) ∷ [])))
        ≡ cond (test_text key k) (Some (insert_entry R (option_map_or (λ hs. hs) o []) p i)) (at_text k index)
    with_by k None is = found_after_insertion text_total text_exact key k ((p, i) ∷ []) index
    with_by k (Some hs) is = found_after_write text_total text_exact key k (insert_entry R hs p i) index (ap is_some is)

    pub found_with : (k : List ℕ) → at_text k (with_holding_by R key p i index) ≡ cond (test_text key k) (Some (insert_entry R (held_at key index) p i)) (at_text k index)
    found_with k = with_by k (at_text key index) refl

    sorted_with_by : (o : Option (HeldBy P)) → IsStrictlySortedBy text_cmp (keys_of index)
        → IsStrictlySortedBy text_cmp (keys_of (option_map_or (λ hs. set_value (is_at (text_cmp key)) index (insert_entry R hs p i)) o (insert_entry text_cmp index key ((p, i) ∷ []))))
    sorted_with_by None s = sorted_in text_total index key ((p, i) ∷ []) s
    sorted_with_by (Some hs) s = sorted_write text_cmp (is_at (text_cmp key)) (insert_entry R hs p i) index s

    pub sorted_with : IsStrictlySortedBy text_cmp (keys_of index) → IsStrictlySortedBy text_cmp (keys_of (with_holding_by R key p i index))
    sorted_with s = sorted_with_by (at_text key index) s

  module _ (key : List ℕ) (p : P) (index : IndexBy P) where
    left_by : (k : List ℕ) (o : HeldBy P) → IsSome (at_text key index) → IsStrictlySortedBy text_cmp (keys_of index) → at_text k (with_holdings key o index) ≡ cond (test_text key k) (if_any o) (at_text k index)
    left_by k [] some s = found_after_removal text_total text_exact key k index s
    left_by k (h ∷ hs) some s = found_after_write text_total text_exact key k (h ∷ hs) index some

    here_none : (k : List ℕ) (b : Bool) → test_text key k ≡ b → at_text key index ≡ None → at_text k index ≡ cond b None (at_text k index)
    here_none k true e is = ap (λ x. at_text x index) (sym (same_key text_total text_exact key k e)) ∙ is
    here_none k false e is = refl

    without_by : (k : List ℕ) (o : Option (HeldBy P)) → at_text key index ≡ o → IsStrictlySortedBy text_cmp (keys_of index)
        → at_text k (option_map_or (λ hs. with_holdings key (remove_entry (is_at (R p)) hs) index) o index)
        ≡ cond (test_text key k) (if_any (remove_entry (is_at (R p)) (option_map_or (λ hs. hs) o []))) (at_text k index)
    without_by k None is s = here_none k (test_text key k) refl is
    without_by k (Some hs) is s = left_by k (remove_entry (is_at (R p)) hs) (ap is_some is) s

    pub found_without : (k : List ℕ) → IsStrictlySortedBy text_cmp (keys_of index) → at_text k (without_holding_by R key p index) ≡ cond (test_text key k) (if_any (remove_entry (is_at (R p)) (held_at key index))) (at_text k index)
    found_without k s = without_by k (at_text key index) refl s

    sorted_left : (o : HeldBy P) → IsStrictlySortedBy text_cmp (keys_of index) → IsStrictlySortedBy text_cmp (keys_of (with_holdings key o index))
    sorted_left [] s = sorted_out text_cmp (is_at (text_cmp key)) index s
    sorted_left (h ∷ hs) s = sorted_write text_cmp (is_at (text_cmp key)) (h ∷ hs) index s

    sorted_without_by : (o : Option (HeldBy P)) → IsStrictlySortedBy text_cmp (keys_of index) → IsStrictlySortedBy text_cmp (keys_of (option_map_or (λ hs. with_holdings key (remove_entry (is_at (R p)) hs) index) o index))
    sorted_without_by None s = s
    sorted_without_by (Some hs) s = sorted_left (remove_entry (is_at (R p)) hs) s

    pub sorted_without : IsStrictlySortedBy text_cmp (keys_of index) → IsStrictlySortedBy text_cmp (keys_of (without_holding_by R key p index))
    sorted_without s = sorted_without_by (at_text key index) s

  inserted_used_by : (p : P) (i : QueryableInfoType) (h : P × QueryableInfoType) (hs : HeldBy P) (r : Ordering) → match_ordering r ((p, i) ∷ h ∷ hs) ((h.0, i) ∷ hs) (h ∷ insert_entry R hs p i) ≡ [] → ⊥
  inserted_used_by p i h hs Less e = absurd (cc)
  inserted_used_by p i h hs Equal e = absurd (cc)
  inserted_used_by p i h hs Greater e = absurd (cc)

  pub inserted_used : (p : P) (i : QueryableInfoType) (hs : HeldBy P) → insert_entry R hs p i ≡ [] → ⊥
  inserted_used p i [] e = absurd (cc)
  inserted_used p i (h ∷ hs) e = inserted_used_by p i h hs (R p h.0) e
