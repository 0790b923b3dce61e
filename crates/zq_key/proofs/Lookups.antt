-- What look-ups find in lists of entries, where keys that compare equal are the same.
use Rattle.std.proofs.Common.{◌≡◌, Bool, true, false, cond, List, [], ◌∷◌, ap, ◌∙◌, refl, Some, None, Option, sym, true≢false}
use Rattle.std.specs.Option.{IsSome, is_some, option_map}
use Rattle.std.specs.declared.cmp.Ordering.{Ordering}
use Rattle.std.specs.declared.cmp.Ordering.TheVariants.{Less, Equal, Greater}
use Rattle.std.specs.Ordering.{is_eq, eq_by_cmp, match_ordering}
use Rattle.std.specs.Cmp.{IsTotalOrder, eq_by_cmp_equiv}
use Rattle.std.specs.List.{AllByRecursion, filter_map, cons_option}
use Rattle.std.specs.List.Sorted.{IsStrictlySortedBy}
use Rattle.std.specs.Map.{keys_of, lookup, remove_entry, set_value}
use Rattle.std.specs.BTreeMap.{is_at, insert_entry}
use Rattle.std.proofs.lemmas.Map.{lookup-remove_entry, lookup-set_value}
use Rattle.std.proofs.lemmas.Map.Keys.{IsDistinct-from_sorted, sorted_head, sorted_tail}
use Rattle.std.proofs.lemmas.Map.Made.{is_some-lookup}
use Rattle.std.proofs.lemmas.Map.Lookups.{CmpEqualImpliesEq}
use Rattle.zq_key.proofs.Sorted.{same_keys}

is_eq_true : (r : Ordering) → is_eq r ≡ true → r ≡ Equal
is_eq_true Less e = cc
is_eq_true Equal e = refl
is_eq_true Greater e = cc

module _ {K : Type 0} {R : K → K → Ordering} (o : IsTotalOrder R) (exact : CmpEqualImpliesEq R) where
  pub same_key : (k q : K) → is_at (R k) q ≡ true → k ≡ q
  same_key k q e = exact k q (is_eq_true _ e)

  pub at_itself : (k : K) → is_at (R k) k ≡ true
  at_itself k = (eq_by_cmp_equiv o).refl k

  apart_by : (k q : K) (b : Bool) → is_at (R k) q ≡ b → (k ≡ q → ⊥) → is_at (R k) q ≡ false
  apart_by k q true e ne = absurd (ne (same_key k q e))
  apart_by k q false e ne = e

  pub apart : (k q : K) → (k ≡ q → ⊥) → is_at (R k) q ≡ false
  apart k q = apart_by k q _ refl

  pub differ : (k q : K) → is_at (R k) q ≡ false → k ≡ q → ⊥
  differ k q e same = true≢false (sym (at_itself k) ∙ ap (is_at (R k)) same ∙ e)

  pub less_apart : (k q : K) → R k q ≡ Less → k ≡ q → ⊥
  less_apart k q l = differ k q (ap is_eq l)

  pub one_class : (k x y : K) → is_at (R k) x ≡ true → is_at (R k) y ≡ eq_by_cmp R x y
  one_class k x y e = (eq_by_cmp_equiv o).congr k x y e

  pub either_way : (k q : K) → is_at (R k) q ≡ is_at (R q) k
  either_way k q = (eq_by_cmp_equiv o).symm k q

module _ {K X : Type 0} {R : K → K → Ordering} (o : IsTotalOrder R) (exact : CmpEqualImpliesEq R) where
  -- ---- look-ups after a change
  pub found_after_removal : (k q : K) (es : List (K × X)) → IsStrictlySortedBy R (keys_of es) → lookup (is_at (R q)) (remove_entry (is_at (R k)) es) ≡ cond (is_at (R k) q) None (lookup (is_at (R q)) es)
  found_after_removal k q es s = lookup-remove_entry (eq_by_cmp_equiv o) (is_at (R k)) (one_class o exact k) q es (IsDistinct-from_sorted R (keys_of es) s)

  pub found_after_write : (k q : K) (w : X) (es : List (K × X)) → IsSome (lookup (is_at (R k)) es) → lookup (is_at (R q)) (set_value (is_at (R k)) es w) ≡ cond (is_at (R k) q) (Some w) (lookup (is_at (R q)) es)
  found_after_write k q w es some = lookup-set_value (eq_by_cmp_equiv o) (is_at (R k)) (one_class o exact k) q w es some

  over_by : (a b : Bool) (x v : X) (rest : Option X) → a ≡ b → cond a (Some v) rest ≡ cond b (Some v) (cond a (Some x) rest)
  over_by true true x v rest e = refl
  over_by false false x v rest e = refl
  over_by true false x v rest e = absurd (true≢false e)
  over_by false true x v rest e = absurd (true≢false (sym e))

  past_by : (a b : Bool) (x v : X) (rest : Option X) → (a ≡ true → b ≡ false) → cond a (Some x) (cond b (Some v) rest) ≡ cond b (Some v) (cond a (Some x) rest)
  past_by true true x v rest e = absurd (true≢false (e refl))
  past_by true false x v rest e = refl
  past_by false b x v rest e = refl

  inserted_by : (k q : K) (v : X) (e : K × X) (es : List (K × X)) (r : Ordering) → R k e.0 ≡ r
      → lookup (is_at (R q)) (insert_entry R es k v) ≡ cond (is_at (R k) q) (Some v) (lookup (is_at (R q)) es)
      → lookup (is_at (R q)) (match_ordering r ((k, v) ∷ e ∷ es) ((e.0, v) ∷ es) (e ∷ insert_entry R es k v)) ≡ cond (is_at (R k) q) (Some v) (lookup (is_at (R q)) (e ∷ es))
  inserted_by k q v e es Less h ih = ap (λ b. cond b (Some v) (lookup (is_at (R q)) (e ∷ es))) (either_way o exact q k)
  inserted_by k q v e es Equal h ih =
      over_by (is_at (R q) e.0) (is_at (R k) q) e.1 v (lookup (is_at (R q)) es) (ap (is_at (R q)) (sym (exact k e.0 h)) ∙ either_way o exact q k)
  inserted_by k q v e es Greater h ih =
      ap (cond (is_at (R q) e.0) (Some e.1)) ih
      ∙ past_by (is_at (R q) e.0) (is_at (R k) q) e.1 v (lookup (is_at (R q)) es) (λ t. ap (is_at (R k)) (same_key o exact q e.0 t) ∙ ap is_eq h)

  pub found_after_insertion : (k q : K) (v : X) (es : List (K × X)) → lookup (is_at (R q)) (insert_entry R es k v) ≡ cond (is_at (R k) q) (Some v) (lookup (is_at (R q)) es)
  found_after_insertion k q v [] = ap (λ b. cond b (Some v) None) (either_way o exact q k)
  found_after_insertion k q v (e ∷ es) = inserted_by k q v e es (R k e.0) refl (found_after_insertion k q v es)

  -- ---- an entry that is put in and taken out again
  undone_by : (k : K) (v : X) (e : K × X) (es : List (K × X)) (r : Ordering) → R k e.0 ≡ r → is_at (R k) e.0 ≡ false → remove_entry (is_at (R k)) (insert_entry R es k v) ≡ es
      → remove_entry (is_at (R k)) (match_ordering r ((k, v) ∷ e ∷ es) ((e.0, v) ∷ es) (e ∷ insert_entry R es k v)) ≡ e ∷ es
  undone_by k v e es Less h miss ih = rw (at_itself o exact k) refl
  undone_by k v e es Equal h miss ih = absurd (true≢false (sym (ap is_eq h) ∙ miss))
  undone_by k v e es Greater h miss ih = rw miss (ap (λ l. e ∷ l) ih)

  missing_by : (k : K) (e : K × X) (es : List (K × X)) (b : Bool) → is_at (R k) e.0 ≡ b → cond b (Some e.1) (lookup (is_at (R k)) es) ≡ None → (b ≡ false) × (lookup (is_at (R k)) es ≡ None)
  missing_by k e es true t is = absurd (let gap : Some e.1 ≡ None = is in cc)
  missing_by k e es false t is = (refl, is)

  pub undone : (k : K) (v : X) (es : List (K × X)) → lookup (is_at (R k)) es ≡ None → remove_entry (is_at (R k)) (insert_entry R es k v) ≡ es
  undone k v [] is = rw (at_itself o exact k) refl
  undone k v (e ∷ es) is = let m = missing_by k e es (is_at (R k) e.0) refl is in undone_by k v e es (R k e.0) refl m.0 (undone k v es m.1)

  -- ---- keys above a key
  pub none_above : (k : K) (es : List (K × X)) → AllByRecursion (λ q. R k q ≡ Less) (keys_of es) → lookup (is_at (R k)) es ≡ None
  none_above k [] all = refl
  none_above k (e ∷ es) all = ap (λ r. cond (is_eq r) (Some e.1) (lookup (is_at (R k)) es)) all.0 ∙ none_above k es all.1

  -- ---- each entry, by look-ups
  later_by : (k : K) (e : K × X) (es : List (K × X)) (v : X) (b : Bool) → is_at (R k) e.0 ≡ b → AllByRecursion (λ q. R e.0 q ≡ Less) (keys_of es) → lookup (is_at (R k)) es ≡ Some v → cond b (Some e.1) (lookup (is_at (R k)) es) ≡ Some v
  later_by k e es v true t above is =
      let gone : lookup (is_at (R k)) es ≡ None = ap (λ j. lookup (is_at (R j)) es) (same_key o exact k e.0 t) ∙ none_above e.0 es above in
      absurd (let gap : None ≡ Some v = sym gone ∙ is in cc)
  later_by k e es v false t above is = is

  pub found_later : (k : K) (e : K × X) (es : List (K × X)) (v : X) → AllByRecursion (λ q. R e.0 q ≡ Less) (keys_of es) → lookup (is_at (R k)) es ≡ Some v → lookup (is_at (R k)) (e ∷ es) ≡ Some v
  found_later k e es v above is = later_by k e es v _ refl above is

  -- what holds of each that a look-up finds holds of each entry
  pub each_entry : (P : K × X → Type 0) (es : List (K × X)) → IsStrictlySortedBy R (keys_of es) → ((k : K) (v : X) → lookup (is_at (R k)) es ≡ Some v → P (k, v)) → AllByRecursion P es
  each_entry P [] s h = tt
  each_entry P (e ∷ es) s h =
      let first : lookup (is_at (R e.0)) (e ∷ es) ≡ Some e.1 = ap (λ b. cond b (Some e.1) (lookup (is_at (R e.0)) es)) (at_itself o exact e.0) in
      (h e.0 e.1 first, each_entry P es (sorted_tail R e.0 (keys_of es) s) (λ k v is. h k v (found_later k e es v (sorted_head R e.0 (keys_of es) s) is)))

  listed : (at : K → Option X) (es : List (K × X)) → AllByRecursion (λ e. at e.0 ≡ Some e.1) es → es ≡ filter_map (λ k. option_map (λ v. (k, v)) (at k)) (keys_of es)
  listed at [] all = refl
  listed at (e ∷ es) all = λ i. cons_option (option_map (λ v. (e.0, v)) (sym all.0 i)) (listed at es all.1 i)

  -- lists in order in which look-ups find the same are one
  pub same_entries : (es fs : List (K × X)) → IsStrictlySortedBy R (keys_of es) → IsStrictlySortedBy R (keys_of fs) → ((q : K) → lookup (is_at (R q)) es ≡ lookup (is_at (R q)) fs) → es ≡ fs
  same_entries es fs s t h =
      let at : K → Option X = λ k. lookup (is_at (R k)) es in
      let keys : keys_of es ≡ keys_of fs = same_keys o exact (keys_of es) (keys_of fs) s t (λ q. sym (is_some-lookup (is_at (R q)) es) ∙ ap is_some (h q) ∙ is_some-lookup (is_at (R q)) fs) in
      listed at es (each_entry (λ e. at e.0 ≡ Some e.1) es s (λ k v is. is))
      ∙ ap (filter_map (λ k. option_map (λ v. (k, v)) (at k))) keys
      ∙ sym (listed at fs (each_entry (λ e. at e.0 ≡ Some e.1) fs t (λ k v is. h k ∙ is)))
