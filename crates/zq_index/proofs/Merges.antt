-- Merging the declarations on a key: where one comes or goes, the others' merge is what it is joined to.
use Rattle.std.proofs.Common.{◌≡◌, ◌∙◌, sym, ap, subst, refl, Bool, true, false, cond, [], ◌∷◌, fold, Option, Some, None}
use Rattle.std.specs.Prelude.{not, filter}
use Rattle.std.specs.declared.cmp.Ordering.{Ordering}
use Rattle.std.specs.declared.cmp.Ordering.TheVariants.{Less, Equal, Greater}
use Rattle.std.specs.Ordering.{is_eq, match_ordering}
use Rattle.std.specs.Cmp.{IsTotalOrder}
use Rattle.std.specs.List.{AllByRecursion}
use Rattle.std.specs.List.Sorted.{IsStrictlySortedBy}
use Rattle.std.specs.Map.{keys_of, remove_entry}
use Rattle.std.specs.BTreeMap.{is_at, insert_entry}
use Rattle.std.proofs.lemmas.Map.Keys.{sorted_head, sorted_tail}
use Rattle.zq_message.specs.declared.message.QueryableInfoType.{QueryableInfoType}
use Rattle.zq_key.proofs.Lookups.{same_key}
use Rattle.zq_key.proofs.Sorted.{chain}
use Rattle.zq_index.specs.Infos.{joined}
use Rattle.zq_index.specs.Holders.{TellsApart, HeldBy, with_held}
use Rattle.zq_index.proofs.Laws.{merge_swap, merge_regroup}

pub joined_regroup : (a b c : Option QueryableInfoType) → joined (joined a b) c ≡ joined a (joined b c)
joined_regroup None b c = refl
joined_regroup (Some a) None c = refl
joined_regroup (Some a) (Some b) None = refl
joined_regroup (Some a) (Some b) (Some c) = ap (λ i. Some i) (merge_regroup a b c)

pub joined_swap : (a b : Option QueryableInfoType) → joined a b ≡ joined b a
joined_swap None None = refl
joined_swap None (Some b) = refl
joined_swap (Some a) None = refl
joined_swap (Some a) (Some b) = ap (λ i. Some i) (merge_swap a b)

pub joined_none : (m : Option QueryableInfoType) → joined m None ≡ m
joined_none None = refl
joined_none (Some i) = refl

module _ {P : Type 0} where
  -- declarations that are merged in after others
  pub held_from : (m : Option QueryableInfoType) (hs : HeldBy P) → fold with_held m hs ≡ joined m (fold with_held None hs)
  held_from m [] = sym (joined_none m)
  held_from m (h ∷ hs) =
      held_from (joined m (Some h.1)) hs
      ∙ joined_regroup m (Some h.1) (fold with_held None hs)
      ∙ ap (joined m) (sym (held_from (Some h.1) hs))

module _ {P : Type 0} {R : P → P → Ordering} (o : IsTotalOrder R) (p : P) where
  gone_above : (hs : HeldBy P) → AllByRecursion (λ q. R p q ≡ Less) (keys_of hs) → remove_entry (is_at (R p)) hs ≡ hs
  gone_above [] all = refl
  gone_above (h ∷ hs) all = ap (λ r. cond (is_eq r) hs (h ∷ remove_entry (is_at (R p)) hs)) all.0 ∙ ap (λ l. h ∷ l) (gone_above hs all.1)

  module _ (i : QueryableInfoType) where
    put_by : (h : P × QueryableInfoType) (hs : HeldBy P) (r : Ordering) → R p h.0 ≡ r → IsStrictlySortedBy R (keys_of (h ∷ hs))
        → fold with_held None (insert_entry R hs p i) ≡ joined (fold with_held None (remove_entry (is_at (R p)) hs)) (Some i)
        → fold with_held None (match_ordering r ((p, i) ∷ h ∷ hs) ((h.0, i) ∷ hs) (h ∷ insert_entry R hs p i)) ≡ joined (fold with_held None (cond (is_eq r) hs (h ∷ remove_entry (is_at (R p)) hs))) (Some i)
    put_by h hs Less is sorted ih =
        held_from (Some i) (h ∷ hs)
        ∙ joined_swap (Some i) (fold with_held None (h ∷ hs))
        ∙ ap (λ l. joined (fold with_held None (h ∷ l)) (Some i)) (sym (gone_above hs (chain o p h.0 (keys_of hs) is (sorted_head R h.0 (keys_of hs) sorted))))
    put_by h hs Equal is sorted ih = held_from (Some i) hs ∙ joined_swap (Some i) (fold with_held None hs)
    put_by h hs Greater is sorted ih =
        held_from (Some h.1) (insert_entry R hs p i)
        ∙ ap (joined (Some h.1)) ih
        ∙ sym (joined_regroup (Some h.1) (fold with_held None (remove_entry (is_at (R p)) hs)) (Some i))
        ∙ ap (λ m. joined m (Some i)) (sym (held_from (Some h.1) (remove_entry (is_at (R p)) hs)))

    -- a declaration that is put in is merged with those of the other places
    pub merged_put : (hs : HeldBy P) → IsStrictlySortedBy R (keys_of hs) → fold with_held None (insert_entry R hs p i) ≡ joined (fold with_held None (remove_entry (is_at (R p)) hs)) (Some i)
    merged_put [] sorted = refl
    merged_put (h ∷ hs) sorted = put_by h hs (R p h.0) refl sorted (merged_put hs (sorted_tail R h.0 (keys_of hs) sorted))

module _ {P : Type 0} {R : P → P → Ordering} (o : IsTotalOrder R) (exact : TellsApart R) (p : P) where
  -- those of the other places are all but the place's own
  abbrev elsewhere : P × QueryableInfoType → Bool
  elsewhere h = not (is_at (R p) h.0)

  stay_above : (hs : HeldBy P) → AllByRecursion (λ q. R p q ≡ Less) (keys_of hs) → filter elsewhere hs ≡ hs
  stay_above [] all = refl
  stay_above (h ∷ hs) all = ap (λ r. cond (not (is_eq r)) (h ∷ filter elsewhere hs) (filter elsewhere hs)) all.0 ∙ ap (λ l. h ∷ l) (stay_above hs all.1)

  stay_by : (h : P × QueryableInfoType) (hs : HeldBy P) (b : Bool) → is_at (R p) h.0 ≡ b → IsStrictlySortedBy R (keys_of (h ∷ hs)) → filter elsewhere hs ≡ remove_entry (is_at (R p)) hs
      → cond (not b) (h ∷ filter elsewhere hs) (filter elsewhere hs) ≡ cond b hs (h ∷ remove_entry (is_at (R p)) hs)
  stay_by h hs true is sorted ih = stay_above hs (subst (λ q. AllByRecursion (λ z. R q z ≡ Less) (keys_of hs)) (sym (same_key o exact p h.0 is)) (sorted_head R h.0 (keys_of hs) sorted))
  stay_by h hs false is sorted ih = ap (λ l. h ∷ l) ih

  pub stay_elsewhere : (hs : HeldBy P) → IsStrictlySortedBy R (keys_of hs) → filter elsewhere hs ≡ remove_entry (is_at (R p)) hs
  stay_elsewhere [] sorted = refl
  stay_elsewhere (h ∷ hs) sorted = stay_by h hs _ refl sorted (stay_elsewhere hs (sorted_tail R h.0 (keys_of hs) sorted))
