-- Pairs as they are handed out.
use Rattle.std.specs.Prelude.{ℕ, List}
use Rattle.zq_store.specs.declared.held.Pair.{Pair}

-- the pair
abbrev pub pair_of : List ℕ × List ℕ → Pair
pair_of p = record { key = p.0; value = p.1 }
