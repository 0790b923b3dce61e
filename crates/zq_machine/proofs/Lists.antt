-- Lists of which each element has a property, and how many elements pass a test.
use Rattle.std.proofs.Common.{◌≡◌, ◌∙◌, refl, sym, ap, subst, ℕ, ◌+◌, ◌<◌, ◌≤◌, Bool, true, false, cond, List, [], ◌∷◌, ◌++◌, map, length, arith, length-append, eqb-true}
use Rattle.std.specs.Prelude.{◌||◌, ◌&&◌, ◌==◌}
use Rattle.std.specs.List.{AllByRecursion, filter, flat_map, list_any}
use Rattle.std.specs.List.Sorted.{IsStrictlySortedBy}
use Rattle.std.specs.Cmp.{nat_cmp_is}
use Rattle.std.specs.Ordering.{nat_cmp}
use Rattle.std.specs.declared.cmp.Ordering.TheVariants.{Less}
use Rattle.std.proofs.lemmas.Bool.{or_parts}
use Rattle.std.proofs.lemmas.Cmp.{nat_cmp_total}
use Rattle.std.proofs.lemmas.List.Elements.{filter-append}
use Rattle.std.proofs.lemmas.List.Folds.{list_any-append}
use Rattle.std.proofs.lemmas.Map.Lookups.{exact_unsigned}
use Rattle.zq_key.proofs.Lookups.{less_apart}
use Rattle.zq_key.proofs.Naturals.{map-map}
use Rattle.zq_query.proofs.Counts.{filters_swap, length_cond}
use Rattle.zq_query.proofs.Putting.{fits_by}

-- ---- each element has a property
module _ {X : Type 0} (P : X → Type 0) where
  pub all_filter : (test : X → Bool) (xs : List X) → AllByRecursion P xs → AllByRecursion P (filter test xs)
  all_filter test [] all = tt
  all_filter test (x ∷ xs) all = by (test x) (all_filter test xs all.1)
    where
      by : (b : Bool) → AllByRecursion P (filter test xs) → AllByRecursion P (cond b (x ∷ filter test xs) (filter test xs))
      by true rest = (all.0, rest)
      by false rest = rest

  pub all_append : (xs ys : List X) → AllByRecursion P xs → AllByRecursion P ys → AllByRecursion P (xs ++ ys)
  all_append [] ys all more = more
  all_append (x ∷ xs) ys all more = (all.0, all_append xs ys all.1 more)

  pub all_parts : (xs ys : List X) → AllByRecursion P (xs ++ ys) → AllByRecursion P xs × AllByRecursion P ys
  all_parts [] ys all = (tt, all)
  all_parts (x ∷ xs) ys all = let rest = all_parts xs ys all.1 in ((all.0, rest.0), rest.1)

pub all_weaker : {X : Type 0} (P Q : X → Type 0) → ((x : X) → P x → Q x) → (xs : List X) → AllByRecursion P xs → AllByRecursion Q xs
all_weaker P Q weaker [] all = tt
all_weaker P Q weaker (x ∷ xs) all = (weaker x all.0, all_weaker P Q weaker xs all.1)

-- those that pass a test have what follows from it
pub all_passing : {X : Type 0} (P Q : X → Type 0) (test : X → Bool) → ((x : X) → test x ≡ true → P x → Q x) → (xs : List X) → AllByRecursion P xs → AllByRecursion Q (filter test xs)
all_passing P Q test gives [] all = tt
all_passing P Q test gives (x ∷ xs) all = by (test x) refl (all_passing P Q test gives xs all.1)
  where
    by : (b : Bool) → test x ≡ b → AllByRecursion Q (filter test xs) → AllByRecursion Q (cond b (x ∷ filter test xs) (filter test xs))
    by true e rest = (gives x e all.0, rest)
    by false e rest = rest

pub all_mapped : {X Y : Type 0} (P : Y → Type 0) (g : X → Y) (xs : List X) → AllByRecursion (λ x. P (g x)) xs → AllByRecursion P (map g xs)
all_mapped P g [] all = tt
all_mapped P g (x ∷ xs) all = (all.0, all_mapped P g xs all.1)

-- none passes a test
pub all_failing : {X : Type 0} (test : X → Bool) (xs : List X) → list_any test xs ≡ false → AllByRecursion (λ x. test x ≡ false) xs
all_failing test [] none = tt
all_failing test (x ∷ xs) none = let m = or_parts (test x) (list_any test xs) none in (m.0, all_failing test xs m.1)

pub none_passing : {X : Type 0} (test : X → Bool) (xs : List X) → AllByRecursion (λ x. test x ≡ false) xs → list_any test xs ≡ false
none_passing test [] all = refl
none_passing test (x ∷ xs) all = λ j. all.0 j || none_passing test xs all.1 j

pub any_flat : {X Y : Type 0} (test : Y → Bool) (f : X → List Y) (xs : List X) → list_any (λ x. list_any test (f x)) xs ≡ list_any test (flat_map f xs)
any_flat test f [] = refl
any_flat test f (x ∷ xs) = ap (λ b. list_any test (f x) || b) (any_flat test f xs) ∙ sym (list_any-append test (f x) (flat_map f xs))

-- ---- how many pass a test
abbrev pub count : {X : Type 0} → (X → Bool) → List X → ℕ
count p xs = length (filter p xs)

module _ {X : Type 0} (p : X → Bool) where
  pub count_append : (xs ys : List X) → count p (xs ++ ys) ≡ count p xs + count p ys
  count_append xs ys = ap length (filter-append p xs ys) ∙ length-append (filter p xs) (filter p ys)

  pub count_more : (x : X) (xs : List X) → count p (x ∷ xs) ≡ count p xs + cond (p x) 1 0
  count_more x xs = length_cond (p x) x (filter p xs)

  pub count_filter : (q : X → Bool) (xs : List X) → count p (filter q xs) ≤ count p xs
  count_filter q xs =
      let swapped = ap length (filters_swap p q xs) in
      let fewer = fits_by q (filter p xs) in
      omega (arith, swapped, fewer)

  pub count_none : (xs : List X) → list_any p xs ≡ false → count p xs ≡ 0
  count_none [] none = refl
  count_none (x ∷ xs) none =
      let m = or_parts (p x) (list_any p xs) none in
      ap (λ b. length (cond b (x ∷ filter p xs) (filter p xs))) m.0 ∙ count_none xs m.1

  -- a test that asks for more
  pub count_stricter : (q : X → Bool) (xs : List X) → count (λ x. p x && q x) xs ≤ count p xs
  count_stricter q [] = omega arith
  count_stricter q (x ∷ xs) = by (p x) (q x) (count_stricter q xs)
    where
      by : (a b : Bool) → count (λ y. p y && q y) xs ≤ count p xs → length (cond (a && b) (x ∷ filter (λ y. p y && q y) xs) (filter (λ y. p y && q y) xs)) ≤ length (cond a (x ∷ filter p xs) (filter p xs))
      by true true ih = omega (arith, ih)
      by true false ih = omega (arith, ih)
      by false b ih = ih

-- ---- lists of numbers in order
abbrev pub is_same : ℕ → ℕ → Bool
is_same n m = m == n

above_fails : (n m : ℕ) (b : Bool) → (m == n) ≡ b → nat_cmp n m ≡ Less → b ≡ false
above_fails n m true e l = absurd (less_apart nat_cmp_total exact_unsigned n m l (sym (eqb-true m n e)))
above_fails n m false e l = refl

none_above : (n : ℕ) (ms : List ℕ) → AllByRecursion (λ m. nat_cmp n m ≡ Less) ms → list_any (is_same n) ms ≡ false
none_above n [] all = refl
none_above n (m ∷ ms) all = λ j. above_fails n m (m == n) refl all.0 j || none_above n ms all.1 j

pub one_of_sorted : (n : ℕ) (ms : List ℕ) → IsStrictlySortedBy nat_cmp ms → count (is_same n) ms ≤ 1
unfolding IsStrictlySortedBy
one_of_sorted n [] s = omega arith
one_of_sorted n (m ∷ ms) s = by (m == n) refl (one_of_sorted n ms s.1)
  where
    by : (b : Bool) → (m == n) ≡ b → count (is_same n) ms ≤ 1 → length (cond b (m ∷ filter (is_same n) ms) (filter (is_same n) ms)) ≤ 1
    by true e ih =
        let none : count (is_same n) ms ≡ 0 = count_none (is_same n) ms (ap (λ k. list_any (is_same k) ms) (sym (eqb-true m n e)) ∙ none_above m ms s.0) in
        omega (arith, none)
    by false e ih = ih

-- of elements of which some stay, each with its number, the numbers stay in order
module _ {X : Type 0} (number : X → ℕ) (test : X → Bool) where
  all_numbers : (P : ℕ → Type 0) (xs : List X) → AllByRecursion P (map number xs) → AllByRecursion P (map number (filter test xs))
  all_numbers P [] all = tt
  all_numbers P (x ∷ xs) all = by (test x) (all_numbers P xs all.1)
    where
      by : (b : Bool) → AllByRecursion P (map number (filter test xs)) → AllByRecursion P (map number (cond b (x ∷ filter test xs) (filter test xs)))
      by true rest = (all.0, rest)
      by false rest = rest

  pub sorted_numbers : (xs : List X) → IsStrictlySortedBy nat_cmp (map number xs) → IsStrictlySortedBy nat_cmp (map number (filter test xs))
  unfolding IsStrictlySortedBy
  sorted_numbers [] s = tt
  sorted_numbers (x ∷ xs) s = by (test x) (sorted_numbers xs s.1)
    where
      by : (b : Bool) → IsStrictlySortedBy nat_cmp (map number (filter test xs)) → IsStrictlySortedBy nat_cmp (map number (cond b (x ∷ filter test xs) (filter test xs)))
      by true rest = (all_numbers (λ m. nat_cmp (number x) m ≡ Less) xs s.0, rest)
      by false rest = rest

  -- also where they are changed otherwise
  module _ (change : X → X) (same : (x : X) → number (change x) ≡ number x) where
    pub all_left : (P : ℕ → Type 0) (xs : List X) → AllByRecursion P (map number xs) → AllByRecursion P (map number (filter test (map change xs)))
    all_left P xs all = all_numbers P (map change xs) (subst (AllByRecursion P) (sym (map-map change number number same xs)) all)

    pub sorted_left : (xs : List X) → IsStrictlySortedBy nat_cmp (map number xs) → IsStrictlySortedBy nat_cmp (map number (filter test (map change xs)))
    sorted_left xs s = sorted_numbers (map change xs) (subst (IsStrictlySortedBy nat_cmp) (sym (map-map change number number same xs)) s)

-- a number above all of them comes last
pub sorted_more : (n : ℕ) (ms : List ℕ) → IsStrictlySortedBy nat_cmp ms → AllByRecursion (λ m. m < n) ms → IsStrictlySortedBy nat_cmp (ms ++ n ∷ [])
unfolding IsStrictlySortedBy
sorted_more n [] s below = (tt, tt)
sorted_more n (m ∷ ms) s below =
    (all_append (λ k. nat_cmp m k ≡ Less) ms (n ∷ []) s.0 (sym (nat_cmp_is m n Less below.0), tt), sorted_more n ms s.1 below.1)
