-- Faces that rise.
use Rattle.std.proofs.Common.{◌≡◌, sym, ℕ, ◌<◌, ◌≤◌, List, [], ◌∷◌, ◌++◌, length, get_or, arith, ◌⊎◌, inl, inr, false, true, Ok, Err}
use Rattle.std.specs.Prelude.{◌==◌, Result, is_ok}
use Rattle.std.specs.List.{All}
use Rattle.std.specs.List.Sorted.{IsBinarySearchResult}
use Rattle.std.specs.Ordering.{nat_cmp}
use Rattle.std.proofs.lemmas.Bool.{cases_lt}
use Rattle.std.proofs.lemmas.Bool.Decides.{nat_tests}
use Rattle.std.proofs.lemmas.List.{get_or_default}
use Rattle.std.proofs.lemmas.List.Quantifiers.{all_pairs_push}
use Rattle.std.proofs.lemmas.List.Folds.{list_any_at, list_any_none}
use Rattle.std.proofs.lemmas.List.Sorted.{searched}
use Rattle.zq_route.specs.Taken.{has, Rises}

-- a greater one goes behind
pub rises_on : (faces : List ℕ) (face : ℕ) → Rises faces → All (λ f. f < face) faces → Rises (faces ++ face ∷ [])
rises_on faces face rises below = all_pairs_push (λ x y. x < y) faces face rises below

other : (a b : ℕ) → (b < a) ⊎ (a < b) → (a == b) ≡ false
other a b (inl lt) = grind (arith, nat_tests)
other a b (inr lt) = grind (arith, nat_tests)

same : (a b : ℕ) → a ≡ b → (b == a) ≡ true
same a b is = grind (arith, nat_tests)

-- a greater one is not there
pub none_there : (faces : List ℕ) (face : ℕ) → All (λ f. f < face) faces → has face faces ≡ false
none_there faces face below = list_any_none (λ f. face == f) faces (λ k d lt. other face (get_or faces k d) (inl (below k d lt)))

-- none falls
none_falls : (faces : List ℕ) → Rises faces → (i j : ℕ) → i ≤ j → j < length faces → get_or faces i 0 ≤ get_or faces j 0
none_falls faces rises i j le lt = grind (arith, rises i j 0)

beside : (faces : List ℕ) (face i k d : ℕ) → ((k : ℕ) → k < i → get_or faces k 0 < face) × ((k : ℕ) → i ≤ k → k < length faces → face < get_or faces k 0) → k < length faces → (get_or faces k d < face) ⊎ (face < get_or faces k d)
beside faces face i k d at lt = by (cases_lt k i)
  where
    here : get_or faces k d ≡ get_or faces k 0
    here = get_or_default faces k d 0 lt

    by : (k < i) ⊎ (i ≤ k) → (get_or faces k d < face) ⊎ (face < get_or faces k d)
    by (inl before) = inl (rw here (at.0 k before))
    by (inr after) = inr (rw here (at.1 k after lt))

-- whether a search finds a face is whether it is there
pub found : (faces : List ℕ) (face : ℕ) (r : Result ℕ ℕ) → Rises faces → IsBinarySearchResult (λ y. nat_cmp y face) faces r → is_ok r ≡ has face faces
found faces face (Ok i) rises is =
    let at = searched faces face (Ok i) is (none_falls faces rises) in
    sym (list_any_at (λ f. face == f) faces i 0 at.0 (same (get_or faces i 0) face at.1))
found faces face (Err i) rises is =
    let at = searched faces face (Err i) is (none_falls faces rises) in
    sym (list_any_none (λ f. face == f) faces (λ k d lt. other face (get_or faces k d) (beside faces face i k d (at.1, at.2) lt)))
