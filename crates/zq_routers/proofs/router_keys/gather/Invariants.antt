use Rattle.std.proofs.Common.{◌≡◌, ℕ, List, map}
use Rattle.std.specs.Prelude.{◌||◌}
use Rattle.std.specs.BTreeSet.{contains_text}
use Rattle.std.specs.String.{string_bytes}
use Rattle.zq_index.specs.Texts.{has_text}
use Rattle.zq_routers.proofs.router_keys.gather.Given as goal

abbrev pub invariant-loop-key : goal.invariant-loop-key
invariant-loop-key l = (k : List ℕ) → (contains_text l.texts k || has_text k (map string_bytes l.key-iterator)) ≡ (contains_text l.initial.texts k || contains_text l.keys k)
