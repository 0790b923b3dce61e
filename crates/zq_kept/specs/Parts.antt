-- What storing one route does to the routes of a text, and where it is stored.
use Rattle.std.specs.Prelude.{◌≡◌, ℕ, List, [], Option, Some, cond, option_map, slice_index, unwrap_or}
use Rattle.std.specs.BTreeMap.{is_at}
use Rattle.std.specs.Ordering.{nat_cmp}
use Rattle.zq_message.specs.declared.message.Region.{Region}
use Rattle.zq_message.specs.Region.{region_index}
use Rattle.zq_message.specs.RegionMap.{value_at}
use Rattle.zq_route.specs.Routes.{with_route}
use Rattle.zq_machine.specs.Selecting.{AskerState}
use Rattle.zq_strategy.specs.State.{HatState}
use Rattle.zq_kept.specs.Current.{node_for}
use Rattle.zq_kept.specs.declared.text.Spot.{Spot}
use Rattle.zq_kept.specs.Table.{OfText, Under}

module _ {T : Type 0} where
  -- no routes
  abbrev pub no_routes : Under T
  no_routes = (0, [])

  -- the routes to the region have one more, or another one; those to others stay
  abbrev pub SetsIn : OfText T → OfText T → Spot → T → Type 0
  SetsIn old new p route = (r : Region) → value_at new r ≡ cond (is_at (nat_cmp (region_index p.dst)) (region_index r)) (Some (with_route p.version p.src p.node route (unwrap_or (value_at old p.dst) no_routes))) (value_at old r)

-- where these offers are kept under the versions
abbrev pub spot_for : List ℕ → AskerState → HatState → Option Spot
spot_for versions a h = option_map (λ n. record { version = slice_index versions (region_index h.region); dst = h.region; src = a.opened.region; node = n }) (node_for a h)
