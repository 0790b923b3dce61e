-- What holds of each number of a row holds on both sides of one, and of that one.
use Rattle.std.proofs.Common.{◌≡◌, ℕ, ◌+◌, ◌-◌, List, ◌∷◌, ◌++◌, length, get_or, sym, subst, ap, ◌∙◌, refl, arith, suc, zero}
use Rattle.std.specs.List.{All}
use Rattle.std.proofs.lemmas.List.{length-append, get_or-append_right, get_or_append_left, get_or_at}

next : (x : ℕ) (ys : List ℕ) (m j d : ℕ) → m ≡ j + 1 → get_or (x ∷ ys) m d ≡ get_or ys j d
next x ys zero j d e = absurd (omega (arith, e))
next x ys (suc m) j d e = let same : m ≡ j = omega (arith, e) in ap (λ q. get_or ys q d) same

module _ (xs : List ℕ) (x : ℕ) (ys : List ℕ) where
  count : length (xs ++ x ∷ ys) ≡ length xs + 1 + length ys
  count = omega (arith, length-append xs (x ∷ ys))

  right : (k j d : ℕ) → k ≡ length xs + 1 + j → get_or (xs ++ x ∷ ys) k d ≡ get_or ys j d
  right k j d is = get_or-append_right xs (x ∷ ys) (length xs) k d refl (omega (arith, is)) ∙ next x ys (k - length xs) j d (omega (arith, is))

  here : (k d : ℕ) → k ≡ length xs → get_or (xs ++ x ∷ ys) k d ≡ x
  here k d is = get_or_at xs x ys d k (sym is)

  module _ (P : ℕ → Type 0) (all : All P (xs ++ x ∷ ys)) where
    pub all_left : All P xs
    all_left k d lt = subst P (get_or_append_left xs (x ∷ ys) d k lt) (all k d (omega (arith, count)))

    pub all_here : P x
    all_here = subst P (here (length xs) 0 refl) (all (length xs) 0 (omega (arith, count)))

    pub all_right : All P ys
    all_right k d lt = subst P (right (length xs + 1 + k) k d refl) (all (length xs + 1 + k) d (omega (arith, count)))
