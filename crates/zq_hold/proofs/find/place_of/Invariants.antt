use Rattle.std.specs.Prelude.{◌≢◌, ℕ, ◌<◌, Some}
use Rattle.zq_hold.specs.Owners.{owner_at}
use Rattle.zq_hold.proofs.find.place_of.Given as goal

abbrev pub invariant-owners : goal.invariant-owners
invariant-owners l = (j : ℕ) → j < l.i → owner_at l.owners j ≢ Some l.number
