-- The first name that is near, from the left.
use Rattle.std.proofs.Common.{◌≡◌, ◌∙◌, ◌<◌, ℕ, suc, ◌+◌, List, Option, Some, drop, get_or, length, map, ap, sym, true, false, cond, subst, arith}
use Rattle.std.proofs.Math.Seq.{drop-cons}
use Rattle.zq_lines.specs.Near.{is_near, near_in}

-- the names from a place on begin with the one that stands there
begun : {X : Type 0} (f : X → List ℕ) (word : List ℕ) (xs : List X) (i : ℕ) (d : X) → i < length xs → near_in word (map f (drop i xs)) ≡ cond (is_near word (f (get_or xs i d))) (Some (f (get_or xs i d))) (near_in word (map f (drop (suc i) xs)))
begun f word xs i d within = λ j. near_in word (map f (drop-cons xs i d within j))

pub passed_over : {X : Type 0} (f : X → List ℕ) (word : List ℕ) (xs : List X) (i : ℕ) (d : X) (all : Option (List ℕ)) → i < length xs → is_near word (f (get_or xs i d)) ≡ false → near_in word (map f (drop i xs)) ≡ all → near_in word (map f (drop (i + 1) xs)) ≡ all
passed_over f word xs i d all within far so_far =
    let next : suc i ≡ i + 1 = omega arith in
    let on : near_in word (map f (drop (suc i) xs)) ≡ all = sym (begun f word xs i d within ∙ ap (λ b. cond b (Some (f (get_or xs i d))) (near_in word (map f (drop (suc i) xs)))) far) ∙ so_far in
    subst (λ j. near_in word (map f (drop j xs)) ≡ all) next on

pub found : {X : Type 0} (f : X → List ℕ) (word : List ℕ) (xs : List X) (i : ℕ) (d : X) (all : Option (List ℕ)) → i < length xs → is_near word (f (get_or xs i d)) ≡ true → near_in word (map f (drop i xs)) ≡ all → Some (f (get_or xs i d)) ≡ all
found f word xs i d all within near so_far =
    sym (begun f word xs i d within ∙ ap (λ b. cond b (Some (f (get_or xs i d))) (near_in word (map f (drop (suc i) xs)))) near) ∙ so_far
