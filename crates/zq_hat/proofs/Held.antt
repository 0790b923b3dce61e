-- The faces' declarations on a key: what look-ups find in them, and that they are in order.
use Rattle.std.proofs.Common.{◌≡◌, ℕ, Bool, true, false, cond, List, [], ◌∷◌, ◌++◌, ap, ◌∙◌, refl, Some, None, Option, sym, true≢false}
use Rattle.std.specs.Prelude.{map, filter}
use Rattle.std.specs.Option.{option_and_then, option_or}
use Rattle.std.specs.declared.cmp.Ordering.{Ordering}
use Rattle.std.specs.declared.cmp.Ordering.TheVariants.{Less, Equal, Greater}
use Rattle.std.specs.Ordering.{nat_cmp, is_eq, ordering_then}
use Rattle.std.specs.Cmp.{nat_cmp_total}
use Rattle.std.specs.List.{AllByRecursion}
use Rattle.std.specs.List.Sorted.{IsStrictlySortedBy}
use Rattle.std.specs.Map.{keys_of, lookup}
use Rattle.std.specs.BTreeMap.{is_at}
use Rattle.std.proofs.lemmas.Map.Keys.{sorted_head, sorted_tail}
use Rattle.std.proofs.lemmas.Map.Lookups.{exact_unsigned}
use Rattle.zq_strategy.specs.declared.types.Declaration.{Declaration}
use Rattle.zq_strategy.specs.Kept.{at_id, is_on, declaration}
use Rattle.zq_strategy.specs.State.{FaceState}
use Rattle.zq_index.specs.Holders.{Place, Holdings, place_cmp, at_place}
use Rattle.zq_hat.specs.Tied.{info_on, declared_at, held_by, held, AreOrdered}
use Rattle.zq_key.proofs.Lookups.{same_key, at_itself, none_above, found_later}

number_itself : (n : ℕ) → is_at (nat_cmp n) n ≡ true
number_itself n = at_itself nat_cmp_total exact_unsigned n

equal_is : (r : Ordering) → is_eq r ≡ true → r ≡ Equal
equal_is Less e = cc
equal_is Equal e = refl
equal_is Greater e = cc

number_equal : (n : ℕ) → nat_cmp n n ≡ Equal
number_equal n = equal_is _ (number_itself n)

-- places of one face are told apart by their ids, those of two never the same
pub own_place : (n i j : ℕ) → is_at (place_cmp (n, i)) (n, j) ≡ is_at (nat_cmp i) j
own_place n i j = ap (λ r. is_eq (ordering_then r (nat_cmp i j))) (number_equal n)

other_by : (r s : Ordering) → is_eq r ≡ false → is_eq (ordering_then r s) ≡ false
other_by Less s e = refl
other_by Equal s e = absurd (true≢false e)
other_by Greater s e = refl

pub other_place : (n i m j : ℕ) → is_at (nat_cmp n) m ≡ false → is_at (place_cmp (n, i)) (m, j) ≡ false
other_place n i m j e = other_by _ (nat_cmp i j) e

abbrev part : ℕ → List ℕ → List (ℕ × Declaration) → Holdings
part n key ds = map (λ d. ((n, d.0), d.1.info)) (filter (is_on key) ds)

module _ (key : List ℕ) where
  here_by : (n i : ℕ) (d : ℕ × Declaration) (ds : List (ℕ × Declaration)) (b c : Bool) → is_on key d ≡ b → is_at (nat_cmp i) d.0 ≡ c → AllByRecursion (λ q. nat_cmp d.0 q ≡ Less) (keys_of ds)
      → at_place (n, i) (part n key ds) ≡ option_and_then (info_on key) (at_id i ds)
      → at_place (n, i) (map (λ e. ((n, e.0), e.1.info)) (cond b (d ∷ filter (is_on key) ds) (filter (is_on key) ds))) ≡ option_and_then (info_on key) (cond c (Some d.1) (at_id i ds))
  here_by n i d ds true true e f above ih =
      ap (λ c. cond c (Some d.1.info) (at_place (n, i) (part n key ds))) (own_place n i d.0 ∙ f) ∙ sym (ap (λ b. cond b (Some d.1.info) None) e)
  here_by n i d ds true false e f above ih = ap (λ c. cond c (Some d.1.info) (at_place (n, i) (part n key ds))) (own_place n i d.0 ∙ f) ∙ ih
  here_by n i d ds false true e f above ih =
      let is : i ≡ d.0 = same_key nat_cmp_total exact_unsigned i d.0 f in
      let gone : at_id i ds ≡ None = ap (λ j. at_id j ds) is ∙ none_above nat_cmp_total exact_unsigned d.0 ds above in
      ih ∙ ap (option_and_then (info_on key)) gone ∙ sym (ap (λ b. cond b (Some d.1.info) None) e)
  here_by n i d ds false false e f above ih = ih

  here : (n i : ℕ) (ds : List (ℕ × Declaration)) → IsStrictlySortedBy nat_cmp (keys_of ds) → at_place (n, i) (part n key ds) ≡ option_and_then (info_on key) (at_id i ds)
  here n i [] s = refl
  here n i (d ∷ ds) s = here_by n i d ds (is_on key d) (is_at (nat_cmp i) d.0) refl refl (sorted_head nat_cmp d.0 (keys_of ds) s) (here n i ds (sorted_tail nat_cmp d.0 (keys_of ds) s))

  there_by : (n i m : ℕ) (d : ℕ × Declaration) (ds : List (ℕ × Declaration)) (b : Bool) → is_at (nat_cmp n) m ≡ false → at_place (n, i) (part m key ds) ≡ None
      → at_place (n, i) (map (λ e. ((m, e.0), e.1.info)) (cond b (d ∷ filter (is_on key) ds) (filter (is_on key) ds))) ≡ None
  there_by n i m d ds true e ih = ap (λ c. cond c (Some d.1.info) (at_place (n, i) (part m key ds))) (other_place n i m d.0 e) ∙ ih
  there_by n i m d ds false e ih = ih

  there : (n i m : ℕ) (ds : List (ℕ × Declaration)) → is_at (nat_cmp n) m ≡ false → at_place (n, i) (part m key ds) ≡ None
  there n i m [] e = refl
  there n i m (d ∷ ds) e = there_by n i m d ds (is_on key d) e (there n i m ds e)

joined_by : {K X : Type 0} (test : K → Bool) (e : K × X) (es fs : List (K × X)) (b : Bool) → lookup test (es ++ fs) ≡ option_or (lookup test es) (lookup test fs) → cond b (Some e.1) (lookup test (es ++ fs)) ≡ option_or (cond b (Some e.1) (lookup test es)) (lookup test fs)
joined_by test e es fs true ih = refl
joined_by test e es fs false ih = ih

lookup_joined : {K X : Type 0} (test : K → Bool) (es fs : List (K × X)) → lookup test (es ++ fs) ≡ option_or (lookup test es) (lookup test fs)
lookup_joined test [] fs = refl
lookup_joined test (e ∷ es) fs = joined_by test e es fs (test e.0) (lookup_joined test es fs)

or_none : {X : Type 0} (x : Option X) → option_or x None ≡ x
or_none None = refl
or_none (Some x) = refl

ordered_tail : (f : ℕ × FaceState) (fs : List (ℕ × FaceState)) → IsStrictlySortedBy nat_cmp (keys_of (f ∷ fs)) → AreOrdered (f ∷ fs) → AreOrdered fs
ordered_tail f fs s ids m g is = ids m g (found_later nat_cmp_total exact_unsigned m f fs g (sorted_head nat_cmp f.0 (keys_of fs) s) is)

ordered_head : (f : ℕ × FaceState) (fs : List (ℕ × FaceState)) → AreOrdered (f ∷ fs) → IsStrictlySortedBy nat_cmp (keys_of f.1.declared)
ordered_head f fs ids = ids f.0 f.1 (ap (λ b. cond b (Some f.1) (at_id f.0 fs)) (number_itself f.0))

module _ (key : List ℕ) where
  found_by : (n i : ℕ) (f : ℕ × FaceState) (fs : List (ℕ × FaceState)) (b : Bool) → is_at (nat_cmp n) f.0 ≡ b → AllByRecursion (λ q. nat_cmp f.0 q ≡ Less) (keys_of fs) → IsStrictlySortedBy nat_cmp (keys_of f.1.declared)
      → at_place (n, i) (held key fs) ≡ declared_at key (n, i) fs
      → option_or (at_place (n, i) (held_by key f)) (at_place (n, i) (held key fs)) ≡ option_and_then (λ g. option_and_then (info_on key) (declaration i g)) (cond b (Some f.1) (at_id n fs))
  found_by n i f fs true e above s ih =
      let is : n ≡ f.0 = same_key nat_cmp_total exact_unsigned n f.0 e in
      let gone : at_id n fs ≡ None = ap (λ j. at_id j fs) is ∙ none_above nat_cmp_total exact_unsigned f.0 fs above in
      let rest : at_place (n, i) (held key fs) ≡ None = ih ∙ ap (option_and_then (λ g. option_and_then (info_on key) (declaration i g))) gone in
      ap (option_or (at_place (n, i) (held_by key f))) rest ∙ or_none (at_place (n, i) (held_by key f)) ∙ ap (λ m. at_place (m, i) (held_by key f)) is ∙ here key f.0 i f.1.declared s
  found_by n i f fs false e above s ih = ap (λ x. option_or x (at_place (n, i) (held key fs))) (there key n i f.0 f.1.declared e) ∙ ih

  pub found_in_held : (n i : ℕ) (faces : List (ℕ × FaceState)) → IsStrictlySortedBy nat_cmp (keys_of faces) → AreOrdered faces → at_place (n, i) (held key faces) ≡ declared_at key (n, i) faces
  found_in_held n i [] s ids = refl
  found_in_held n i (f ∷ fs) s ids =
      lookup_joined (is_at (place_cmp (n, i))) (held_by key f) (held key fs)
      ∙ found_by n i f fs _ refl (sorted_head nat_cmp f.0 (keys_of fs) s) (ordered_head f fs ids) (found_in_held n i fs (sorted_tail nat_cmp f.0 (keys_of fs) s) (ordered_tail f fs s ids))

  -- ---- in order
  lower_by : (n i : ℕ) (q : Place) → nat_cmp n q.0 ≡ Less → place_cmp (n, i) q ≡ Less
  lower_by n i q l = ap (λ r. ordering_then r (nat_cmp i q.1)) l

  own_lower : (n i j : ℕ) → nat_cmp i j ≡ Less → place_cmp (n, i) (n, j) ≡ Less
  own_lower n i j l = ap (λ r. ordering_then r (nat_cmp i j)) (number_equal n) ∙ l

  others_lower : (n i : ℕ) (es : Holdings) → AllByRecursion (λ q. nat_cmp n q.0 ≡ Less) (keys_of es) → AllByRecursion (λ q. place_cmp (n, i) q ≡ Less) (keys_of es)
  others_lower n i [] all = tt
  others_lower n i (e ∷ es) all = (lower_by n i e.0 all.0, others_lower n i es all.1)

  lower_all_by : (n i : ℕ) (d : ℕ × Declaration) (ds : List (ℕ × Declaration)) (es : Holdings) (b : Bool) → nat_cmp i d.0 ≡ Less → AllByRecursion (λ q. place_cmp (n, i) q ≡ Less) (keys_of (part n key ds ++ es))
      → AllByRecursion (λ q. place_cmp (n, i) q ≡ Less) (keys_of (map (λ e. ((n, e.0), e.1.info)) (cond b (d ∷ filter (is_on key) ds) (filter (is_on key) ds)) ++ es))
  lower_all_by n i d ds es true l ih = (own_lower n i d.0 l, ih)
  lower_all_by n i d ds es false l ih = ih

  lower_all : (n i : ℕ) (ds : List (ℕ × Declaration)) (es : Holdings) → AllByRecursion (λ j. nat_cmp i j ≡ Less) (keys_of ds) → AllByRecursion (λ q. nat_cmp n q.0 ≡ Less) (keys_of es) → AllByRecursion (λ q. place_cmp (n, i) q ≡ Less) (keys_of (part n key ds ++ es))
  lower_all n i [] es all above = others_lower n i es above
  lower_all n i (d ∷ ds) es all above = lower_all_by n i d ds es (is_on key d) all.0 (lower_all n i ds es all.1 above)

  front_by : (n : ℕ) (d : ℕ × Declaration) (ds : List (ℕ × Declaration)) (es : Holdings) (b : Bool) → AllByRecursion (λ q. place_cmp (n, d.0) q ≡ Less) (keys_of (part n key ds ++ es)) → IsStrictlySortedBy place_cmp (keys_of (part n key ds ++ es))
      → IsStrictlySortedBy place_cmp (keys_of (map (λ e. ((n, e.0), e.1.info)) (cond b (d ∷ filter (is_on key) ds) (filter (is_on key) ds)) ++ es))
  unfolding IsStrictlySortedBy
  front_by n d ds es true all ih = (all, ih)
  front_by n d ds es false all ih = ih

  sorted_front : (n : ℕ) (ds : List (ℕ × Declaration)) (es : Holdings) → IsStrictlySortedBy nat_cmp (keys_of ds) → IsStrictlySortedBy place_cmp (keys_of es) → AllByRecursion (λ q. nat_cmp n q.0 ≡ Less) (keys_of es) → IsStrictlySortedBy place_cmp (keys_of (part n key ds ++ es))
  sorted_front n [] es s t above = t
  sorted_front n (d ∷ ds) es s t above =
      front_by n d ds es (is_on key d) (lower_all n d.0 ds es (sorted_head nat_cmp d.0 (keys_of ds) s) above) (sorted_front n ds es (sorted_tail nat_cmp d.0 (keys_of ds) s) t above)

  above_part_by : (n m : ℕ) (d : ℕ × Declaration) (ds : List (ℕ × Declaration)) (es : Holdings) (b : Bool) → nat_cmp n m ≡ Less → AllByRecursion (λ q. nat_cmp n q.0 ≡ Less) (keys_of (part m key ds ++ es))
      → AllByRecursion (λ q. nat_cmp n q.0 ≡ Less) (keys_of (map (λ e. ((m, e.0), e.1.info)) (cond b (d ∷ filter (is_on key) ds) (filter (is_on key) ds)) ++ es))
  above_part_by n m d ds es true l ih = (l, ih)
  above_part_by n m d ds es false l ih = ih

  above_part : (n m : ℕ) (ds : List (ℕ × Declaration)) (es : Holdings) → nat_cmp n m ≡ Less → AllByRecursion (λ q. nat_cmp n q.0 ≡ Less) (keys_of es) → AllByRecursion (λ q. nat_cmp n q.0 ≡ Less) (keys_of (part m key ds ++ es))
  above_part n m [] es l all = all
  above_part n m (d ∷ ds) es l all = above_part_by n m d ds es (is_on key d) l (above_part n m ds es l all)

  pub above_held : (n : ℕ) (faces : List (ℕ × FaceState)) → AllByRecursion (λ m. nat_cmp n m ≡ Less) (keys_of faces) → AllByRecursion (λ q. nat_cmp n q.0 ≡ Less) (keys_of (held key faces))
  above_held n [] all = tt
  above_held n (f ∷ fs) all = above_part n f.0 f.1.declared (held key fs) all.0 (above_held n fs all.1)

  sorted_none : IsStrictlySortedBy place_cmp []
  unfolding IsStrictlySortedBy
  sorted_none = tt

  pub sorted_held : (faces : List (ℕ × FaceState)) → IsStrictlySortedBy nat_cmp (keys_of faces) → AreOrdered faces → IsStrictlySortedBy place_cmp (keys_of (held key faces))
  sorted_held [] s ids = sorted_none
  sorted_held (f ∷ fs) s ids =
      sorted_front f.0 f.1.declared (held key fs) (ordered_head f fs ids) (sorted_held fs (sorted_tail nat_cmp f.0 (keys_of fs) s) (ordered_tail f fs s ids)) (above_held f.0 fs (sorted_head nat_cmp f.0 (keys_of fs) s))
