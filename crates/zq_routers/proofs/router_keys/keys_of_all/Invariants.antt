use Rattle.std.proofs.Common.{◌≡◌, ℕ, List, take}
use Rattle.std.specs.List.{list_any}
use Rattle.std.specs.BTreeSet.{contains_text}
use Rattle.zq_strategy.specs.Entries.{has_key_of}
use Rattle.zq_routers.proofs.router_keys.keys_of_all.Given as goal

abbrev pub invariant-loop-id : goal.invariant-loop-id
invariant-loop-id l = (k : List ℕ) → contains_text l.texts k ≡ list_any (has_key_of l.routers.entries k) (take l.id-index l.ids)
