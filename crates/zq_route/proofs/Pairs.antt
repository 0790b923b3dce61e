-- Lists side by side, as pairs.
use Rattle.std.proofs.Common.{◌≡◌, ap, refl, arith, ℕ, List, [], ◌∷◌, ◌++◌, length}
use Rattle.std.specs.Prelude.{◌||◌, ◌==◌}
use Rattle.std.specs.List.{list_any, zip}
use Rattle.std.specs.Map.{values_of}
use Rattle.zq_route.specs.Built.{has_face}

module _ {T : Type 0} where
  pub pairs_pushed : (fs : List ℕ) (xs : List T) (f : ℕ) (x : T) → length fs ≡ length xs → zip (fs ++ f ∷ []) (xs ++ x ∷ []) ≡ zip fs xs ++ (f, x) ∷ []
  pairs_pushed [] [] f x same = refl
  pairs_pushed [] (y ∷ ys) f x same = absurd (omega (arith, same))
  pairs_pushed (g ∷ gs) [] f x same = absurd (omega (arith, same))
  pairs_pushed (g ∷ gs) (y ∷ ys) f x same = ap (λ l. (g, y) ∷ l) (pairs_pushed gs ys f x (omega (arith, same)))

  pub elements : (fs : List ℕ) (xs : List T) → length fs ≡ length xs → values_of (zip fs xs) ≡ xs
  elements [] [] same = refl
  elements [] (y ∷ ys) same = absurd (omega (arith, same))
  elements (g ∷ gs) [] same = absurd (omega (arith, same))
  elements (g ∷ gs) (y ∷ ys) same = ap (λ l. y ∷ l) (elements gs ys (omega (arith, same)))

  pub any_paired : (n : ℕ) (fs : List ℕ) (xs : List T) → length fs ≡ length xs → has_face n (zip fs xs) ≡ list_any (λ f. n == f) fs
  any_paired n [] [] same = refl
  any_paired n [] (y ∷ ys) same = absurd (omega (arith, same))
  any_paired n (g ∷ gs) [] same = absurd (omega (arith, same))
  any_paired n (g ∷ gs) (y ∷ ys) same = ap (λ b. (n == g) || b) (any_paired n gs ys (omega (arith, same)))
