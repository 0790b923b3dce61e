-- Lists of numbers, none of which stands twice.
use Rattle.std.proofs.Common.{◌≡◌, ℕ, ◌+◌, ◌<◌, ◌≤◌, Bool, true, false, cond, not, List, [], ◌∷◌, length, refl, sym, ap, ◌∙◌, arith, eqb-true}
use Rattle.std.specs.Prelude.{◌==◌, ◌||◌}
use Rattle.std.specs.List.{filter, list_any}
use Rattle.std.proofs.lemmas.Bool.{eq-eqb, false≢true, or_right}
use Rattle.std.proofs.lemmas.List.Filters.{length-filter_both}
use Rattle.std.proofs.lemmas.Map.Views.{any-filter_same}
use Rattle.zq_query.specs.Records.{is_reply}
use Rattle.zq_machine.proofs.Lists.{count, count_more}

-- no number stands twice
abbrev pub Distinct : List ℕ → Type 0
Distinct xs = (k : ℕ) → count (is_reply k) xs ≤ 1

-- each number of the one stands in the other
abbrev pub IsWithin : List ℕ → List ℕ → Type 0
IsWithin xs ys = (k : ℕ) → list_any (is_reply k) xs ≡ true → list_any (is_reply k) ys ≡ true

pub count_some : {X : Type 0} (p : X → Bool) (xs : List X) → list_any p xs ≡ true → 0 < count p xs
count_some p [] h = absurd (false≢true h)
count_some p (x ∷ xs) h = by (p x) h (count_some p xs)
  where
    by : (b : Bool) → (b || list_any p xs) ≡ true → (list_any p xs ≡ true → 0 < count p xs) → 0 < length (cond b (x ∷ filter p xs) (filter p xs))
    by true g ih = omega arith
    by false g ih = ih g

pub none_counted : {X : Type 0} (p : X → Bool) (xs : List X) → count p xs ≡ 0 → list_any p xs ≡ false
none_counted p xs none = by (list_any p xs) refl
  where
    by : (b : Bool) → list_any p xs ≡ b → b ≡ false
    by false e = refl
    by true e = let some = count_some p xs e in absurd (omega arith)

module _ (x k : ℕ) where
  apart : (x == k) ≡ false → (y : ℕ) → is_reply k y ≡ true → not (is_reply x y) ≡ true
  apart e y h = by (y == x) refl
    where
      by : (b : Bool) → (y == x) ≡ b → not b ≡ true
      by false f = refl
      by true f = absurd (false≢true (sym e ∙ eq-eqb x k (sym (eqb-true y x f) ∙ eqb-true y k h)))

-- of those without a repetition there are no more than of those that have them all
pub fits : (xs ys : List ℕ) → Distinct xs → IsWithin xs ys → length xs ≤ length ys
fits [] ys once in_both = omega arith
fits (x ∷ xs) ys once in_both =
    let rest : List ℕ = filter (λ y. not (is_reply x y)) ys in
    let here : list_any (is_reply x) (x ∷ xs) ≡ true = ap (λ b. b || list_any (is_reply x) xs) (eq-eqb x x refl) in
    let some = count_some (is_reply x) ys (in_both x here) in
    let both = length-filter_both (is_reply x) (λ y. not (is_reply x y)) (λ y. refl) ys in
    let fewer : Distinct xs = λ k. (let m = count_more (is_reply k) x xs in let o = once k in omega arith) in
    let within : IsWithin xs rest = λ k h. by k h (x == k) refl in
    let ih = fits xs rest fewer within in
    omega (arith, some, both, ih)
  where
    by : (k : ℕ) → list_any (is_reply k) xs ≡ true → (b : Bool) → (x == k) ≡ b → list_any (is_reply k) (filter (λ y. not (is_reply x y)) ys) ≡ true
    by k h true e =
        let some = count_some (is_reply k) xs h in
        let more = count_more (is_reply k) x xs ∙ ap (λ b. count (is_reply k) xs + cond b 1 0) e in
        let o = once k in
        absurd (omega (arith, some, more, o))
    by k h false e = any-filter_same (is_reply k) (λ y. not (is_reply x y)) true (apart x k e) ys ∙ in_both k (or_right (x == k) (list_any (is_reply k) xs) h)
