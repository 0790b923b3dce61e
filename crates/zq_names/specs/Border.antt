-- A place in a row between what two facts are about.
use Rattle.std.specs.Prelude.{ℕ, ◌-◌, ◌<◌, ◌≤◌, List, length, slice_index}

-- the number right before place i has A, and the one at it has B
pub record IsBorder (A B : ℕ → Type 0) (xs : List ℕ) (i : ℕ) : Type 0 where
  pub in_range : i ≤ length xs
  pub before : 0 < i → A (slice_index xs (i - 1))
  pub at : i < length xs → B (slice_index xs i)
