-- Lists of which each item fits where its lines show all of it.
use Rattle.std.proofs.Common.{◌≡◌, ℕ, ◌+◌, ◌<◌, ◌≤◌, List, length, take, get_or}
use Rattle.std.specs.Prelude.{All}
use Rattle.std.specs.List.{AllByRecursion}
use Rattle.std.proofs.lemmas.List.{take_all}
use Rattle.std.proofs.lemmas.List.Elements.{All-more, at_read, All-from_recursion, recursion_from_All}

module _ {X : Type 0} (Shows Fits : X → Type 0) where
  -- one item more
  pub one_more : (xs : List X) (i : ℕ) (x : X) → i < length xs → x ≡ get_or xs i x → (Shows x → Fits x) → All (λ x. Shows x → Fits x) (take i xs) → All (λ x. Shows x → Fits x) (take (i + 1) xs)
  one_more xs i x l is fit each = All-more (λ x. Shows x → Fits x) xs i x l each (at_read xs (λ x. Shows x → Fits x) i x l is fit x)

  -- and at the end each item fits, where all are shown
  pub each_fit : (xs : List X) (i : ℕ) → length xs ≤ i → All (λ x. Shows x → Fits x) (take i xs) → AllByRecursion Shows xs → AllByRecursion Fits xs
  each_fit xs i l each shown =
      let all : All (λ x. Shows x → Fits x) xs = rw (take_all i xs l) at each in
      recursion_from_All Fits xs (λ k d inside. all k d inside (All-from_recursion Shows xs shown k d inside))
