-- Entries by number: what is found after a change, and what a filter leaves.
use Rattle.std.proofs.Common.{◌≡◌, ◌∙◌, refl, sym, ap, subst, ℕ, Bool, true, false, cond, List, [], ◌∷◌, Some, None, true≢false}
use Rattle.std.specs.Prelude.{filter}
use Rattle.std.specs.Str.{bytes_eq}
use Rattle.std.specs.Ordering.{nat_cmp, is_eq}
use Rattle.std.specs.declared.cmp.Ordering.TheVariants.{Less}
use Rattle.std.specs.Cmp.{eq_by_cmp_equiv}
use Rattle.std.specs.List.{AllByRecursion}
use Rattle.std.specs.List.Sorted.{IsStrictlySortedBy}
use Rattle.std.specs.Map.{keys_of, remove_entry}
use Rattle.std.specs.BTreeMap.{is_at, insert_entry}
use Rattle.std.proofs.lemmas.Cmp.{nat_cmp_total}
use Rattle.std.proofs.lemmas.Map.Entries.{lookup-filter-values, option_filter}
use Rattle.std.proofs.lemmas.Map.Keys.{IsDistinct-from_sorted, sorted_head, sorted_tail}
use Rattle.std.proofs.lemmas.Map.Lookups.{exact_unsigned}
use Rattle.std.proofs.lemmas.Slice.Eq.{bytes_eq-Decides}
use Rattle.zq_told.specs.ToldSets.{at_face}
use Rattle.zq_key.proofs.Lookups.{at_itself, differ, each_entry, found_after_insertion, found_after_removal, same_key}

-- ---- texts that are one
pub same_text : (a b : List ℕ) → bytes_eq a b ≡ true → a ≡ b
same_text a b e = (bytes_eq-Decides a b).0 e

pub text_itself : (a : List ℕ) → bytes_eq a a ≡ true
text_itself a = (bytes_eq-Decides a a).1 refl

-- ---- numbers that are one
pub one_number : (k q : ℕ) → is_at (nat_cmp k) q ≡ true → k ≡ q
one_number k q e = same_key nat_cmp_total exact_unsigned k q e

pub itself : (k : ℕ) → is_at (nat_cmp k) k ≡ true
itself k = at_itself nat_cmp_total exact_unsigned k

pub is_other : (k q : ℕ) → is_at (nat_cmp k) q ≡ false → k ≡ q → ⊥
is_other k q e = differ nat_cmp_total exact_unsigned k q e

pub less_itself : (k : ℕ) → nat_cmp k k ≡ Less → ⊥
less_itself k e = true≢false (sym (itself k) ∙ ap is_eq e)

module _ {X : Type 0} where
  abbrev pub Sorted : List (ℕ × X) → Type 0
  Sorted es = IsStrictlySortedBy nat_cmp (keys_of es)

  pub found_put : (k q : ℕ) (v : X) (es : List (ℕ × X)) → at_face q (insert_entry nat_cmp es k v) ≡ cond (is_at (nat_cmp k) q) (Some v) (at_face q es)
  found_put k q v es = found_after_insertion nat_cmp_total exact_unsigned k q v es

  pub found_taken : (k q : ℕ) (es : List (ℕ × X)) → Sorted es → at_face q (remove_entry (is_at (nat_cmp k)) es) ≡ cond (is_at (nat_cmp k) q) None (at_face q es)
  found_taken k q es s = found_after_removal nat_cmp_total exact_unsigned k q es s

  -- ---- a filter
  module _ (p : X → Bool) where
    pub found_filtered : (q : ℕ) (es : List (ℕ × X)) → Sorted es → at_face q (filter (λ e. p e.1) es) ≡ option_filter p (at_face q es)
    found_filtered q es s = lookup-filter-values (eq_by_cmp_equiv nat_cmp_total) p q es (IsDistinct-from_sorted nat_cmp (keys_of es) s)

    all_left_by : (P : ℕ → Type 0) (e : ℕ × X) (es : List (ℕ × X)) (b : Bool) → AllByRecursion P (keys_of (e ∷ es)) → AllByRecursion P (keys_of (filter (λ e. p e.1) es)) → AllByRecursion P (keys_of (cond b (e ∷ filter (λ e. p e.1) es) (filter (λ e. p e.1) es)))
    all_left_by P e es true all ih = (all.0, ih)
    all_left_by P e es false all ih = ih

    all_left : (P : ℕ → Type 0) (es : List (ℕ × X)) → AllByRecursion P (keys_of es) → AllByRecursion P (keys_of (filter (λ e. p e.1) es))
    all_left P [] all = tt
    all_left P (e ∷ es) all = all_left_by P e es (p e.1) all (all_left P es all.1)

    sorted_left_by : (e : ℕ × X) (es : List (ℕ × X)) (b : Bool) → Sorted (e ∷ es) → Sorted (filter (λ e. p e.1) es) → Sorted (cond b (e ∷ filter (λ e. p e.1) es) (filter (λ e. p e.1) es))
    unfolding IsStrictlySortedBy
    sorted_left_by e es true s ih = (all_left (λ q. nat_cmp e.0 q ≡ Less) es s.0, ih)
    sorted_left_by e es false s ih = ih

    pub sorted_left : (es : List (ℕ × X)) → Sorted es → Sorted (filter (λ e. p e.1) es)
    sorted_left [] s = s
    sorted_left (e ∷ es) s = sorted_left_by e es (p e.1) s (sorted_left es (sorted_tail nat_cmp e.0 (keys_of es) s))

  -- ---- what passes a filter, by look-ups
  module _ (p : ℕ × X → Bool) where
    none_by : (e : ℕ × X) (es : List (ℕ × X)) (b : Bool) → b ≡ false → filter p es ≡ [] → cond b (e ∷ filter p es) (filter p es) ≡ []
    none_by e es true h ih = absurd (true≢false h)
    none_by e es false h ih = ih

    pub none_passes : (es : List (ℕ × X)) → AllByRecursion (λ e. p e ≡ false) es → filter p es ≡ []
    none_passes [] all = refl
    none_passes (e ∷ es) all = none_by e es (p e) all.0 (none_passes es all.1)

    pub no_entry : (es : List (ℕ × X)) → Sorted es → ((q : ℕ) (v : X) → at_face q es ≡ Some v → p (q, v) ≡ false) → filter p es ≡ []
    no_entry es s h = none_passes es (each_entry nat_cmp_total exact_unsigned (λ e. p e ≡ false) es s h)

    module _ (x : ℕ × X) (passes : p x ≡ true) where
      -- behind the entry none passes
      later_by : (e : ℕ × X) (b : Bool) → p e ≡ b → nat_cmp x.0 e.0 ≡ Less → (p e ≡ true → e ≡ x) → p e ≡ false
      later_by e true is l h = absurd (less_itself x.0 (ap (λ y. nat_cmp x.0 y.0) (sym (h is)) ∙ l))
      later_by e false is l h = is

      later : (es : List (ℕ × X)) → AllByRecursion (λ q. nat_cmp x.0 q ≡ Less) (keys_of es) → AllByRecursion (λ e. p e ≡ true → e ≡ x) es → AllByRecursion (λ e. p e ≡ false) es
      later [] above all = tt
      later (e ∷ es) above all = (later_by e (p e) refl above.0 all.0, later es above.1 all.1)

      found_by : (e : ℕ × X) (es : List (ℕ × X)) (b : Bool) → is_at (nat_cmp x.0) e.0 ≡ b → p e ≡ false → cond b (Some e.1) (at_face x.0 es) ≡ Some x.1 → at_face x.0 es ≡ Some x.1
      found_by e es true is not h =
          let same : e.1 ≡ x.1 = let both : Some e.1 ≡ Some x.1 = h in cc in
          let number : x.0 ≡ e.0 = one_number x.0 e.0 is in
          let flip = sym same in
          let one : p x ≡ p e = λ i. p (number i, flip i) in
          absurd (true≢false (sym passes ∙ one ∙ not))
      found_by e es false is not h = h

      one_by : (e : ℕ × X) (es : List (ℕ × X)) (b : Bool) → p e ≡ b → Sorted (e ∷ es) → AllByRecursion (λ e. p e ≡ true → e ≡ x) (e ∷ es) → at_face x.0 (e ∷ es) ≡ Some x.1
          → (at_face x.0 es ≡ Some x.1 → filter p es ≡ x ∷ [])
          → cond b (e ∷ filter p es) (filter p es) ≡ x ∷ []
      one_by e es true is s all h ih =
          let same : e ≡ x = all.0 is in
          let above : AllByRecursion (λ q. nat_cmp x.0 q ≡ Less) (keys_of es) = subst (λ y. AllByRecursion (λ q. nat_cmp y.0 q ≡ Less) (keys_of es)) same (sorted_head nat_cmp e.0 (keys_of es) s) in
          ap (λ l. e ∷ l) (none_passes es (later es above all.1)) ∙ ap (λ y. y ∷ []) same
      one_by e es false is s all h ih = ih (found_by e es (is_at (nat_cmp x.0) e.0) refl is h)

      only : (es : List (ℕ × X)) → Sorted es → AllByRecursion (λ e. p e ≡ true → e ≡ x) es → at_face x.0 es ≡ Some x.1 → filter p es ≡ x ∷ []
      only [] s all h = absurd (let gap : None ≡ Some x.1 = h in cc)
      only (e ∷ es) s all h = one_by e es (p e) refl s all h (λ g. only es (sorted_tail nat_cmp e.0 (keys_of es) s) all.1 g)

      pub one_entry : (es : List (ℕ × X)) → Sorted es → at_face x.0 es ≡ Some x.1 → ((q : ℕ) (v : X) → at_face q es ≡ Some v → p (q, v) ≡ true → (q, v) ≡ x) → filter p es ≡ x ∷ []
      one_entry es s h all = only es s (each_entry nat_cmp_total exact_unsigned (λ e. p e ≡ true → e ≡ x) es s all) h
