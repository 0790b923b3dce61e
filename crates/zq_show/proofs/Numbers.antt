-- What is written so far, and what is written of the items that are left.
use Rattle.std.proofs.Common.{◌≡◌, ℕ, ◌+◌, ◌<◌, List, ◌++◌, length, drop, get_or, ap}
use Rattle.std.proofs.lemmas.List.{drop_more}
use Rattle.zq_show.specs.Numbered.{numbered}

-- the item at a place is written before those behind it
pub next_numbered : {X : Type 0} (write : ℕ → X → List ℕ) (xs : List X) (i : ℕ) (x : X) → i < length xs → numbered write i (drop i xs) ≡ write i (get_or xs i x) ++ numbered write (i + 1) (drop (i + 1) xs)
next_numbered write xs i x inside = ap (numbered write i) (drop_more xs i x inside)
