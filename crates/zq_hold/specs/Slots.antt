-- Lists of slots.
use Rattle.std.specs.Prelude.{ℕ, ◌+◌, Bool, true, false, eqb, cond, List, [], ◌∷◌, Option, Some, None}
use Rattle.std.proofs.Common.{zero, suc}

-- 1 where it is so, else 0
abbrev pub weight : Bool → ℕ
weight true = 1
weight false = 0

-- how often the slot k stands in the list
abbrev pub times : ℕ → List ℕ → ℕ
times k [] = 0
times k (x ∷ xs) = weight (eqb x k) + times k xs

-- the list without the slot k
abbrev pub without : ℕ → List ℕ → List ℕ
without k [] = []
without k (x ∷ xs) = cond (eqb x k) (without k xs) (x ∷ without k xs)

-- 1 where the slot is k, 0 where it is another or there is none
abbrev pub stood : ℕ → Option ℕ → ℕ
stood k None = 0
stood k (Some x) = weight (eqb x k)

-- 1 where there is a slot, else 0
abbrev pub one_slot : Option ℕ → ℕ
one_slot None = 0
one_slot (Some x) = 1

-- the numbers below n, the greatest first
abbrev pub below : ℕ → List ℕ
below zero = []
below (suc n) = n ∷ below n
