-- How a number leaves the matches of some nodes.
use Rattle.std.specs.Prelude.{◌≡◌, ℕ, List, Option}
use Rattle.std.specs.Option.{is_some}
use Rattle.std.specs.List.{Contains}
use Rattle.zq_names.specs.declared.node.Node.{Node}
use Rattle.zq_names.specs.declared.node.ResourceId.{ResourceId}
use Rattle.zq_names.specs.Names.{slot, slot_matches, slot_former, entry_of, without_match}

-- the number i has left the matches of the holders, and may have left those of others; all else is as it was
pub record Drops (old new : List (Option Node)) (i : ℕ) (holders : List ResourceId) : Type 0 where
  pub same : (j : ℕ) → without_match i (entry_of j (slot new j)) ≡ without_match i (entry_of j (slot old j))
  pub live : (j : ℕ) → is_some (slot new j) ≡ is_some (slot old j)
  pub former : (j : ℕ) → slot_former (slot new j) ≡ slot_former (slot old j)
  pub fewer : (j : ℕ) (m : ResourceId) → Contains (slot_matches (slot new j)) m → Contains (slot_matches (slot old j)) m
  pub gone : (h m : ResourceId) → Contains holders h → m.0 ≡ i → Contains (slot_matches (slot new h.0)) m → ⊥
