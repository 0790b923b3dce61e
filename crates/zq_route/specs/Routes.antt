-- What a contract sees of `Routes`: a version, and by region and node what is stored under it.
use Rattle.std.specs.Prelude.{◌≡◌, ℕ, ◌==◌, List, [], Option, None, Some, if◌then◌else◌}
use Rattle.std.specs.Map.{lookup}
use Rattle.std.specs.BTreeMap.{is_at, insert_entry}
use Rattle.std.specs.Ordering.{nat_cmp, ordering_then}
use Rattle.std.specs.declared.cmp.Ordering.{Ordering}
use Rattle.zq_message.specs.declared.message.Region.{Region}
use Rattle.zq_message.specs.Region.{region_index}

-- a region's index, and a node
abbrev pub Origin : Type 0
Origin = ℕ × ℕ

-- by region, then node
abbrev pub origin_cmp : Origin → Origin → Ordering
origin_cmp x y = ordering_then (nat_cmp x.0 y.0) (nat_cmp x.1 y.1)

-- where a request of a region comes from
abbrev pub origin_of : Region → ℕ → Origin
origin_of region node = (region_index region, node)

module _ {T : Type 0} where
  -- what is stored under a version: another one finds nothing
  abbrev pub stored_under : ℕ → ℕ × List (Origin × T) → List (Origin × T)
  stored_under version s = if s.0 == version then s.1 else []

  -- the route of a region and a node under a version
  abbrev pub route_at : ℕ → Region → ℕ → ℕ × List (Origin × T) → Option T
  route_at version region node s = lookup (is_at (origin_cmp (origin_of region node))) (stored_under version s)

  -- the route is stored; another version empties first
  abbrev pub with_route : ℕ → Region → ℕ → T → ℕ × List (Origin × T) → ℕ × List (Origin × T)
  with_route version region node route s = (version, insert_entry origin_cmp (stored_under version s) (origin_of region node) route)
