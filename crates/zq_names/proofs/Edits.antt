-- Insertions and removals past a number that others stand before.
use Rattle.std.proofs.Common.{◌≡◌, ℕ, ◌+◌, ◌-◌, ◌<◌, List, [], ◌∷◌, ◌++◌, length, get_or, sym, ap, ◌∙◌, refl, arith, suc, zero}
use Rattle.std.specs.List.{insert, remove}
use Rattle.std.proofs.lemmas.List.Edits.{insert-append_right, remove-append_right}

insert_next : {X : Type 0} (x : X) (ys : List X) (m k : ℕ) (y : X) → m ≡ k + 1 → insert (x ∷ ys) m y ≡ x ∷ insert ys k y
insert_next x ys zero k y e = absurd (omega (arith, e))
insert_next x ys (suc m) k y e = let same : m ≡ k = omega (arith, e) in ap (λ j. x ∷ insert ys j y) same

pub insert_past : {X : Type 0} (xs : List X) (x : X) (ys : List X) (n at : ℕ) (y : X) → n ≡ length xs → n < at → insert (xs ++ x ∷ ys) at y ≡ xs ++ x ∷ insert ys (at - n - 1) y
insert_past xs x ys n at y is lt = insert-append_right xs (x ∷ ys) n at y (sym is) (omega arith) ∙ ap (λ l. xs ++ l) (insert_next x ys (at - n) (at - n - 1) y (omega arith))

remove_next : {X : Type 0} (x : X) (ys : List X) (m k : ℕ) → m ≡ k + 1 → remove (x ∷ ys) m ≡ x ∷ remove ys k
remove_next x ys zero k e = absurd (omega (arith, e))
remove_next x ys (suc m) k e = let same : m ≡ k = omega (arith, e) in ap (λ j. x ∷ remove ys j) same

pub remove_past : {X : Type 0} (xs : List X) (x : X) (ys : List X) (n at : ℕ) → n ≡ length xs → n < at → remove (xs ++ x ∷ ys) at ≡ xs ++ x ∷ remove ys (at - n - 1)
remove_past xs x ys n at is lt = remove-append_right xs (x ∷ ys) n at (sym is) (omega arith) ∙ ap (λ l. xs ++ l) (remove_next x ys (at - n) (at - n - 1) (omega arith))

remove_first : {X : Type 0} (x : X) (ys : List X) (m : ℕ) → m ≡ 0 → remove (x ∷ ys) m ≡ ys
remove_first x ys zero e = refl
remove_first x ys (suc m) e = absurd (omega (arith, e))

-- the number at the place itself
pub remove_here : {X : Type 0} (xs : List X) (x : X) (ys : List X) (at : ℕ) → at ≡ length xs → remove (xs ++ x ∷ ys) at ≡ xs ++ ys
remove_here xs x ys at is = remove-append_right xs (x ∷ ys) at at (sym is) (omega arith) ∙ ap (λ l. xs ++ l) (remove_first x ys (at - at) (omega arith))

-- the first number comes before the rest
pub first_before : (ys : List ℕ) (y : ℕ) → 0 < length ys → y ≡ get_or ys 0 0 → y ∷ remove ys 0 ≡ ys
first_before [] y lt is = absurd (omega arith)
first_before (z ∷ zs) y lt is = ap (λ w. w ∷ zs) is
