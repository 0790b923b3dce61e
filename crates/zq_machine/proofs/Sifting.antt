-- Items that a test passes, among items in order.
use Rattle.std.proofs.Common.{◌≡◌, ◌∙◌, refl, sym, ap, Bool, true, false, cond, List, [], ◌∷◌, ◌++◌, filter, fold, append_assoc, append-nil}
use Rattle.std.specs.BTreeSet.{insert_key}
use Rattle.std.specs.Cmp.{IsTotalOrder}
use Rattle.std.specs.List.{AllByRecursion}
use Rattle.std.specs.List.Sorted.{IsStrictlySortedBy}
use Rattle.std.specs.Ordering.{match_ordering, ordering_reverse}
use Rattle.std.specs.declared.cmp.Ordering.{Ordering}
use Rattle.std.specs.declared.cmp.Ordering.TheVariants.{Less, Equal, Greater}
use Rattle.std.proofs.lemmas.Map.Keys.{sorted_head, sorted_tail}
use Rattle.zq_key.proofs.Sorted.{sorted_put}
use Rattle.zq_machine.proofs.Lists.{all_append, all_filter, all_weaker}

module _ {K : Type 0} {R : K → K → Ordering} (o : IsTotalOrder R) where
  abbrev Sorted : List K → Type 0
  Sorted xs = IsStrictlySortedBy R xs

  -- ---- where an item is put
  put_first : (ys : List K) (k : K) → AllByRecursion (λ y. R k y ≡ Less) ys → insert_key R ys k ≡ k ∷ ys
  put_first [] k all = refl
  put_first (y ∷ ys) k all = ap (λ r. match_ordering r (k ∷ y ∷ ys) (y ∷ ys) (y ∷ insert_key R ys k)) all.0

  put_last : (xs : List K) (k : K) → AllByRecursion (λ x. R x k ≡ Less) xs → insert_key R xs k ≡ xs ++ k ∷ []
  put_last [] k all = refl
  put_last (x ∷ xs) k all =
      ap (λ r. match_ordering r (k ∷ x ∷ xs) (x ∷ xs) (x ∷ insert_key R xs k)) (o.antisymm k x ∙ ap ordering_reverse all.0) ∙ ap (λ l. x ∷ l) (put_last xs k all.1)

  -- what is in order stays as it is
  stays_behind : (xs us : List K) → Sorted us → AllByRecursion (λ x. AllByRecursion (λ u. R x u ≡ Less) us) xs → fold (insert_key R) xs us ≡ xs ++ us
  stays_behind xs [] s all = sym (append-nil xs)
  stays_behind xs (u ∷ us) s all =
      ap (λ l. fold (insert_key R) l us) (put_last xs u (all_weaker (λ x. AllByRecursion (λ y. R x y ≡ Less) (u ∷ us)) (λ x. R x u ≡ Less) (λ x a. a.0) xs all))
      ∙ stays_behind (xs ++ u ∷ []) us (sorted_tail R u us s)
      (all_append (λ x. AllByRecursion (λ y. R x y ≡ Less) us) xs (u ∷ []) (all_weaker (λ x. AllByRecursion (λ y. R x y ≡ Less) (u ∷ us)) (λ x. AllByRecursion (λ y. R x y ≡ Less) us) (λ x a. a.1) xs all) (sorted_head R u us s, tt))
      ∙ append_assoc xs (u ∷ []) us

  pub in_order_stays : (us : List K) → Sorted us → fold (insert_key R) [] us ≡ us
  in_order_stays us s = stays_behind [] us s tt

  -- ---- a test that passes none or both of two equal items
  module _ (p : K → Bool) (alike : (a b : K) → R a b ≡ Equal → p a ≡ p b) where
    off_by : (k x : K) (xs : List K) (r : Ordering) → p k ≡ false → filter p (insert_key R xs k) ≡ filter p xs → filter p (match_ordering r (k ∷ x ∷ xs) (x ∷ xs) (x ∷ insert_key R xs k)) ≡ filter p (x ∷ xs)
    off_by k x xs Less out more = ap (λ b. cond b (k ∷ filter p (x ∷ xs)) (filter p (x ∷ xs))) out
    off_by k x xs Equal out more = refl
    off_by k x xs Greater out more = ap (λ l. cond (p x) (x ∷ l) l) more

    put_off : (xs : List K) (k : K) → p k ≡ false → filter p (insert_key R xs k) ≡ filter p xs
    put_off [] k out = ap (λ b. cond b (k ∷ []) []) out
    put_off (x ∷ xs) k out = off_by k x xs (R k x) out (put_off xs k out)

    abbrev put_among : K → K → List K → Ordering → List K
    put_among k x ys r = match_ordering r (k ∷ x ∷ ys) (x ∷ ys) (x ∷ insert_key R ys k)

    on_by : (k x : K) (xs : List K) → Sorted (x ∷ xs) → p k ≡ true → (r : Ordering) → R k x ≡ r → filter p (insert_key R xs k) ≡ insert_key R (filter p xs) k → filter p (put_among k x xs r) ≡ insert_key R (filter p (x ∷ xs)) k
    on_by k x xs s on Less e more =
        ap (λ b. cond b (k ∷ filter p (x ∷ xs)) (filter p (x ∷ xs))) on
        ∙ sym (put_first (filter p (x ∷ xs)) k (all_filter (λ y. R k y ≡ Less) p (x ∷ xs) (e, all_weaker (λ y. R x y ≡ Less) (λ y. R k y ≡ Less) (λ y l. o.trans k x y e l) xs (sorted_head R x xs s))))
    on_by k x xs s on Equal e more =
        let there : p x ≡ true = sym (alike k x e) ∙ on in
        ap (λ b. cond b (x ∷ filter p xs) (filter p xs)) there
        ∙ sym (ap (λ b. insert_key R (cond b (x ∷ filter p xs) (filter p xs)) k) there ∙ ap (put_among k x (filter p xs)) e)
    on_by k x xs s on Greater e more = by (p x)
      where
        by : (b : Bool) → cond b (x ∷ filter p (insert_key R xs k)) (filter p (insert_key R xs k)) ≡ insert_key R (cond b (x ∷ filter p xs) (filter p xs)) k
        by true = ap (λ l. x ∷ l) more ∙ sym (ap (put_among k x (filter p xs)) e)
        by false = more

    put_on : (xs : List K) (k : K) → Sorted xs → p k ≡ true → filter p (insert_key R xs k) ≡ insert_key R (filter p xs) k
    put_on [] k s on = ap (λ b. cond b (k ∷ []) []) on
    put_on (x ∷ xs) k s on = on_by k x xs s on (R k x) refl (put_on xs k (sorted_tail R x xs s) on)

    pub sifted : (xs us : List K) → Sorted xs → filter p (fold (insert_key R) xs us) ≡ fold (insert_key R) (filter p xs) (filter p us)
    sifted xs [] s = refl
    sifted xs (u ∷ us) s = sifted (insert_key R xs u) us (sorted_put o xs u s) ∙ by (p u) refl
      where
        by : (b : Bool) → p u ≡ b → fold (insert_key R) (filter p (insert_key R xs u)) (filter p us) ≡ fold (insert_key R) (filter p xs) (cond b (u ∷ filter p us) (filter p us))
        by true e = ap (λ l. fold (insert_key R) l (filter p us)) (put_on xs u s e)
        by false e = ap (λ l. fold (insert_key R) l (filter p us)) (put_off xs u e)
