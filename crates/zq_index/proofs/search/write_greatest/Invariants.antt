use Rattle.std.proofs.Common.{◌≡◌, ◌++◌, ℕ, List}
use Rattle.zq_index.proofs.search.write_greatest.Given as goal

abbrev pub invariant-loop : goal.invariant-loop
invariant-loop l = (more : List ℕ) × (l.bytes.items ≡ l.initial.bytes.items ++ more)
