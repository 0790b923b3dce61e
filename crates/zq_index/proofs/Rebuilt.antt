-- Entries in order, put into a map one after the other, are its entries.
use Rattle.std.proofs.Common.{◌≡◌, ◌∙◌, sym, ap, subst, refl, List, [], ◌∷◌, ◌++◌, fold, append_assoc}
use Rattle.std.specs.declared.cmp.Ordering.{Ordering}
use Rattle.std.specs.declared.cmp.Ordering.TheVariants.{Less, Greater}
use Rattle.std.specs.Ordering.{match_ordering, ordering_reverse, nat_cmp}
use Rattle.std.specs.Cmp.{IsTotalOrder, nat_cmp_total}
use Rattle.std.specs.Prelude.{ℕ}
use Rattle.std.specs.List.{AllByRecursion}
use Rattle.std.specs.List.Sorted.{IsStrictlySortedBy}
use Rattle.std.specs.Map.{keys_of}
use Rattle.std.specs.BTreeMap.{insert_entry}
use Rattle.std.proofs.lemmas.Map.Keys.{sorted_head, sorted_tail}
use Rattle.std.proofs.lemmas.List.{append-nil, map-append}
use Rattle.std.specs.Prelude.{String}
use Rattle.std.specs.String.{string_bytes, string_cmp}
use Rattle.std.specs.declared.alloc.Global.{Global}
use Rattle.zq_index.specs.Texts.{text_cmp, texts_of}
use Rattle.zq_index.proofs.Orders.{text_total}

-- an entry is put in its place
abbrev pub put_entry : {K X : Type 0} → (K → K → Ordering) → List (K × X) → K × X → List (K × X)
put_entry cmp es e = insert_entry cmp es e.0 e.1

above : {K : Type 0} {R : K → K → Ordering} (o : IsTotalOrder R) (k j : K) → R j k ≡ Less → R k j ≡ Greater
above o k j l = o.antisymm k j ∙ ap ordering_reverse l

middle : {K : Type 0} (P : K → Type 0) (xs : List K) (k : K) (ys : List K) → AllByRecursion P (xs ++ k ∷ ys) → P k
middle P [] k ys all = all.0
middle P (x ∷ xs) k ys all = middle P xs k ys all.1

module _ {K X : Type 0} {R : K → K → Ordering} (o : IsTotalOrder R) where
  put_last : (es : List (K × X)) (k : K) (v : X) (ys : List K) → IsStrictlySortedBy R (keys_of es ++ k ∷ ys) → insert_entry R es k v ≡ es ++ (k, v) ∷ []
  put_last [] k v ys s = refl
  put_last (e ∷ es) k v ys s =
      let below : R e.0 k ≡ Less = middle (λ y. R e.0 y ≡ Less) (keys_of es) k ys (sorted_head R e.0 (keys_of es ++ k ∷ ys) s) in
      ap (λ r. match_ordering r ((k, v) ∷ e ∷ es) ((e.0, v) ∷ es) (e ∷ insert_entry R es k v)) (above o k e.0 below)
      ∙ ap (λ l. e ∷ l) (put_last es k v ys (sorted_tail R e.0 (keys_of es ++ k ∷ ys) s))

  rebuilt_after : (done es : List (K × X)) → IsStrictlySortedBy R (keys_of done ++ keys_of es) → fold (put_entry R) done es ≡ done ++ es
  rebuilt_after done [] s = sym (append-nil done)
  rebuilt_after done (e ∷ es) s =
      let last = put_last done e.0 e.1 (keys_of es) s in
      let moved : keys_of done ++ keys_of (e ∷ es) ≡ keys_of (done ++ e ∷ []) ++ keys_of es =
      sym (append_assoc (keys_of done) (e.0 ∷ []) (keys_of es)) ∙ ap (λ l. l ++ keys_of es) (sym (map-append (λ (x : K × X). x.0) done (e ∷ []))) in
      ap (λ l. fold (put_entry R) l es) last
      ∙ rebuilt_after (done ++ e ∷ []) es (subst (IsStrictlySortedBy R) moved s)
      ∙ append_assoc done (e ∷ []) es

  pub rebuilt : (es : List (K × X)) → IsStrictlySortedBy R (keys_of es) → fold (put_entry R) [] es ≡ es
  rebuilt es s = rebuilt_after [] es s

pub rebuilt_numbers : {X : Type 0} (es : List (ℕ × X)) → IsStrictlySortedBy nat_cmp (keys_of es) → fold (put_entry nat_cmp) [] es ≡ es
rebuilt_numbers es s = rebuilt nat_cmp_total es s

texts_above : {X : Type 0} (s : String Global) (es : List (String Global × X)) → AllByRecursion (λ y. string_cmp s y ≡ Less) (keys_of es) → AllByRecursion (λ y. text_cmp (string_bytes s) y ≡ Less) (keys_of (texts_of es))
texts_above s [] all = tt
texts_above s (e ∷ es) all = (all.0, texts_above s es all.1)

sorted_cons : {K : Type 0} (R : K → K → Ordering) (k : K) (ks : List K) → AllByRecursion (λ y. R k y ≡ Less) ks → IsStrictlySortedBy R ks → IsStrictlySortedBy R (k ∷ ks)
unfolding IsStrictlySortedBy
sorted_cons R k ks all s = (all, s)

sorted_nil : {K : Type 0} (R : K → K → Ordering) → IsStrictlySortedBy R []
unfolding IsStrictlySortedBy
sorted_nil R = tt

pub sorted_texts : {X : Type 0} (es : List (String Global × X)) → IsStrictlySortedBy string_cmp (keys_of es) → IsStrictlySortedBy text_cmp (keys_of (texts_of es))
sorted_texts [] s = sorted_nil text_cmp
sorted_texts (e ∷ es) s = sorted_cons text_cmp (string_bytes e.0) (keys_of (texts_of es)) (texts_above e.0 es (sorted_head string_cmp e.0 (keys_of es) s)) (sorted_texts es (sorted_tail string_cmp e.0 (keys_of es) s))

pub rebuilt_texts : {X : Type 0} (es : List (String Global × X)) → IsStrictlySortedBy string_cmp (keys_of es) → fold (put_entry text_cmp) [] (texts_of es) ≡ texts_of es
rebuilt_texts es s = rebuilt text_total (texts_of es) (sorted_texts es s)
