-- Which gateway carries a request between regions.
use Rattle.std.specs.Prelude.{ℕ, ◌≡◌, ◌≤◌, ◌<◌, length, Bool, true, false, not, cond, ◌&&◌, ◌==◌, List, [], ◌∷◌, Option, Some, None, max, fold, find, option_map, if◌then◌else◌}
use Rattle.std.specs.List.{list_any}
use Rattle.std.specs.Option.{option_and_then}
use Rattle.zq_message.specs.declared.message.Region.{Region}
use Rattle.zq_message.specs.declared.message.Zid.{Zid}
use Rattle.zq_strategy.specs.Regions.{is_north}
use Rattle.zq_message.specs.RegionMap.{value_at}
use Rattle.zq_route.specs.declared.gateways.GatewayEntry.{GatewayEntry}
use Rattle.zq_route.specs.declared.gateways.Gateways.{Gateways}
use Rattle.zq_route.specs.declared.filter.InterRegionFilter.{InterRegionFilter}

-- whether two regions are of equal bounds
abbrev pub same_bound : Region → Region → Bool
same_bound a b = cond (is_north a) (is_north b) (not (is_north b))

-- whether the ids are equal
abbrev pub is_zid : Zid → Zid → Bool
is_zid a b = a.0 == b.0

-- whether the entry is the node's
abbrev pub is_node : Zid → GatewayEntry → Bool
is_node zid entry = is_zid zid entry.node

-- the gateways of the node, or of the whole region where no node is named
abbrev pub listed : Option Zid → Gateways → Option (List Zid)
listed (Some zid) table = option_map (λ e. e.gateways) (find (is_node zid) table.of)
listed None table = table.all

-- the list that counts: the destination's for an asker in North, else the asker's
abbrev pub gateways_of : InterRegionFilter → List (ℕ × Gateways) → Option (List Zid)
gateways_of f tables =
    if is_north f.src then option_and_then (listed f.dst_zid) (value_at tables f.dst)
    else option_and_then (listed f.fwd_zid) (value_at tables f.src)

-- the greatest id of a list
abbrev pub greatest : List Zid → ℕ
greatest zids = fold (λ m z. max m z.0) 0 zids

-- whether the id is in the list
abbrev pub has_zid : Zid → List Zid → Bool
has_zid zid zids = list_any (is_zid zid) zids

-- a missing or an empty list and an unknown source let each gateway pass; a source in the list lets none; else the greatest id alone passes
abbrev pub carries : Option (List Zid) → Option Zid → Zid → Bool
carries None src own = true
carries (Some []) src own = true
carries (Some (z ∷ zs)) None own = true
carries (Some (z ∷ zs)) (Some s) own = not (has_zid s (z ∷ zs)) && (greatest (z ∷ zs) == own.0)

-- between regions of equal bounds every gateway passes, else by the list that counts
abbrev pub passes_between : InterRegionFilter → List (ℕ × Gateways) → Zid → Bool
passes_between f tables own = if same_bound f.src f.dst then true else carries (gateways_of f tables) f.src_zid own

-- the id is in the list, and none of the list is greater
pub record IsGreatest (own : Zid) (zids : List Zid) : Type 0 where
  pub member : has_zid own zids ≡ true
  pub above : (zid : Zid) → has_zid zid zids ≡ true → zid.0 ≤ own.0

-- between regions of different bounds, about a source that is known, the gateways of a list that is not empty decide
pub record Decide (f : InterRegionFilter) (tables : List (ℕ × Gateways)) (src : Zid) (zids : List Zid) : Type 0 where
  pub bounds : same_bound f.src f.dst ≡ false
  pub source : f.src_zid ≡ Some src
  pub list : gateways_of f tables ≡ Some zids
  pub some : 0 < length zids
