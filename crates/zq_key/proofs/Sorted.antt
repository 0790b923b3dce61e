-- Keys and entries stay in order when they are put in, written over and taken out.
use Rattle.std.proofs.Common.{◌≡◌, Bool, true, false, cond, List, [], ◌∷◌, ap, ◌∙◌, refl, sym, subst}
use Rattle.std.specs.Prelude.{◌||◌}
use Rattle.std.specs.declared.cmp.Ordering.{Ordering}
use Rattle.std.specs.declared.cmp.Ordering.TheVariants.{Less, Equal, Greater}
use Rattle.std.specs.Ordering.{match_ordering, ordering_reverse}
use Rattle.std.specs.Cmp.{IsTotalOrder}
use Rattle.std.specs.List.{AllByRecursion, list_any}
use Rattle.std.specs.List.Sorted.{IsStrictlySortedBy}
use Rattle.std.specs.Map.{keys_of, remove_entry, set_value}
use Rattle.std.specs.BTreeMap.{is_at, insert_entry}
use Rattle.std.specs.BTreeSet.{BTreeSet, insert_key}
use Rattle.std.proofs.Math.Bool.{or_self_left}
use Rattle.std.proofs.lemmas.Map.{keys-set_value}
use Rattle.std.proofs.lemmas.Map.Keys.{sorted_tail}
use Rattle.std.proofs.lemmas.Map.Lookups.{CmpEqualImpliesEq, btree_set_from_contains}
use Rattle.zq_key.proofs.Truth.{or_swap}

module _ {K : Type 0} {R : K → K → Ordering} (o : IsTotalOrder R) where
  -- a key below one that is below all is below all
  pub chain : (k q : K) (ks : List K) → R k q ≡ Less → AllByRecursion (λ z. R q z ≡ Less) ks → AllByRecursion (λ z. R k z ≡ Less) ks
  chain k q [] l all = tt
  chain k q (x ∷ ks) l all = (o.trans k q x l all.0, chain k q ks l all.1)

  -- ---- a key is put in
  all_in_by : (P : K → Type 0) (k x : K) (xs : List K) (r : Ordering) → P k → AllByRecursion P (x ∷ xs) → AllByRecursion P (insert_key R xs k) → AllByRecursion P (match_ordering r (k ∷ x ∷ xs) (x ∷ xs) (x ∷ insert_key R xs k))
  all_in_by P k x xs Less it all ih = (it, all)
  all_in_by P k x xs Equal it all ih = all
  all_in_by P k x xs Greater it all ih = (all.0, ih)

  all_in : (P : K → Type 0) (k : K) (xs : List K) → P k → AllByRecursion P xs → AllByRecursion P (insert_key R xs k)
  all_in P k [] it all = (it, tt)
  all_in P k (x ∷ xs) it all = all_in_by P k x xs (R k x) it all (all_in P k xs it all.1)

  sorted_by : (k x : K) (xs : List K) (r : Ordering) → R k x ≡ r → IsStrictlySortedBy R (x ∷ xs) → IsStrictlySortedBy R (insert_key R xs k) → IsStrictlySortedBy R (match_ordering r (k ∷ x ∷ xs) (x ∷ xs) (x ∷ insert_key R xs k))
  unfolding IsStrictlySortedBy
  sorted_by k x xs Less h s ih = ((h, chain k x xs h s.0), s)
  sorted_by k x xs Equal h s ih = s
  sorted_by k x xs Greater h s ih = (all_in (λ z. R x z ≡ Less) k xs (o.antisymm x k ∙ ap ordering_reverse h) s.0, ih)

  one_sorted : (k : K) → IsStrictlySortedBy R (k ∷ [])
  unfolding IsStrictlySortedBy
  one_sorted k = (tt, tt)

  pub sorted_put : (xs : List K) (k : K) → IsStrictlySortedBy R xs → IsStrictlySortedBy R (insert_key R xs k)
  sorted_put [] k s = one_sorted k
  sorted_put (x ∷ xs) k s = sorted_by k x xs (R k x) refl s (sorted_put xs k (sorted_tail R x xs s))

module _ {K : Type 0} {R : K → K → Ordering} (o : IsTotalOrder R) (exact : CmpEqualImpliesEq R) where
  put_by : (q k x : K) (xs : List K) (r : Ordering) → R k x ≡ r → list_any (is_at (R q)) (insert_key R xs k) ≡ (is_at (R q) k || list_any (is_at (R q)) xs)
      → list_any (is_at (R q)) (match_ordering r (k ∷ x ∷ xs) (x ∷ xs) (x ∷ insert_key R xs k)) ≡ (is_at (R q) k || list_any (is_at (R q)) (x ∷ xs))
  put_by q k x xs Less e ih = refl
  put_by q k x xs Equal e ih =
      sym (or_self_left (is_at (R q) x) (list_any (is_at (R q)) xs))
      ∙ ap (λ z. is_at (R q) z || (is_at (R q) x || list_any (is_at (R q)) xs)) (sym (exact k x e))
  put_by q k x xs Greater e ih = ap (λ b. is_at (R q) x || b) ih ∙ or_swap (is_at (R q) x) (is_at (R q) k) (list_any (is_at (R q)) xs)

  -- what is among the keys after one is put in
  pub has_put : (q k : K) (xs : List K) → list_any (is_at (R q)) (insert_key R xs k) ≡ (is_at (R q) k || list_any (is_at (R q)) xs)
  has_put q k [] = refl
  has_put q k (x ∷ xs) = put_by q k x xs (R k x) refl (has_put q k xs)

  -- two lists in order with the same keys are one
  pub same_keys : (xs ys : List K) → IsStrictlySortedBy R xs → IsStrictlySortedBy R ys → ((q : K) → list_any (is_at (R q)) xs ≡ list_any (is_at (R q)) ys) → xs ≡ ys
  same_keys xs ys s t h =
      let keys : List K → BTreeSet K = λ ks. record { keys = ks } in
      btree_set_from_contains o (keys xs) (keys ys) s t h exact

-- ---- entries
module _ {K X : Type 0} (R : K → K → Ordering) where
  keys_in_by : (k : K) (v : X) (e : K × X) (es : List (K × X)) (r : Ordering) → keys_of (insert_entry R es k v) ≡ insert_key R (keys_of es) k
      → keys_of (match_ordering r ((k, v) ∷ e ∷ es) ((e.0, v) ∷ es) (e ∷ insert_entry R es k v)) ≡ match_ordering r (k ∷ e.0 ∷ keys_of es) (e.0 ∷ keys_of es) (e.0 ∷ insert_key R (keys_of es) k)
  keys_in_by k v e es Less ih = refl
  keys_in_by k v e es Equal ih = refl
  keys_in_by k v e es Greater ih = ap (λ l. e.0 ∷ l) ih

  keys_in : (es : List (K × X)) (k : K) (v : X) → keys_of (insert_entry R es k v) ≡ insert_key R (keys_of es) k
  keys_in [] k v = refl
  keys_in (e ∷ es) k v = keys_in_by k v e es (R k e.0) (keys_in es k v)

pub sorted_in : {K X : Type 0} {R : K → K → Ordering} → IsTotalOrder R → (es : List (K × X)) (k : K) (v : X) → IsStrictlySortedBy R (keys_of es) → IsStrictlySortedBy R (keys_of (insert_entry R es k v))
sorted_in {R} o es k v s = subst (IsStrictlySortedBy R) (sym (keys_in R es k v)) (sorted_put o (keys_of es) k s)

module _ {K X : Type 0} (R : K → K → Ordering) (test : K → Bool) where
  pub sorted_write : (w : X) (es : List (K × X)) → IsStrictlySortedBy R (keys_of es) → IsStrictlySortedBy R (keys_of (set_value test es w))
  sorted_write w es s = subst (IsStrictlySortedBy R) (sym (keys-set_value test es w)) s

  all_out_by : (P : K → Type 0) (e : K × X) (es : List (K × X)) (b : Bool) → AllByRecursion P (keys_of (e ∷ es)) → AllByRecursion P (keys_of (remove_entry test es)) → AllByRecursion P (keys_of (cond b es (e ∷ remove_entry test es)))
  all_out_by P e es true all ih = all.1
  all_out_by P e es false all ih = (all.0, ih)

  all_out : (P : K → Type 0) (es : List (K × X)) → AllByRecursion P (keys_of es) → AllByRecursion P (keys_of (remove_entry test es))
  all_out P [] all = tt
  all_out P (e ∷ es) all = all_out_by P e es (test e.0) all (all_out P es all.1)

  sorted_out_by : (e : K × X) (es : List (K × X)) (b : Bool) → IsStrictlySortedBy R (keys_of (e ∷ es)) → IsStrictlySortedBy R (keys_of (remove_entry test es)) → IsStrictlySortedBy R (keys_of (cond b es (e ∷ remove_entry test es)))
  unfolding IsStrictlySortedBy
  sorted_out_by e es true s ih = s.1
  sorted_out_by e es false s ih = (all_out (λ q. R e.0 q ≡ Less) es s.0, ih)

  pub sorted_out : (es : List (K × X)) → IsStrictlySortedBy R (keys_of es) → IsStrictlySortedBy R (keys_of (remove_entry test es))
  sorted_out [] s = s
  sorted_out (e ∷ es) s = sorted_out_by e es (test e.0) s (sorted_out es (sorted_tail R e.0 (keys_of es) s))
