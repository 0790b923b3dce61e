-- What is offered for routers' entries, by the faces on the ways to the routers.
use Rattle.std.specs.Prelude.{ℕ, Bool, ◌&&◌, List, Option, Some, option_map}
use Rattle.std.specs.List.{flat_map}
use Rattle.std.specs.Option.{option_to_list}
use Rattle.zq_message.specs.declared.message.QueryableInfoType.{QueryableInfoType}
use Rattle.zq_message.specs.declared.message.Region.{Region}
use Rattle.zq_message.specs.declared.message.Zid.{Zid}
use Rattle.zq_key.specs.Key.{includes}
use Rattle.zq_strategy.specs.declared.network.Network.{Network}
use Rattle.zq_strategy.specs.Entries.{Routed}
use Rattle.zq_strategy.specs.Nets.{◌>>=◌, towards}
use Rattle.zq_strategy.specs.declared.offer.QueryTargetQabl.{QueryTargetQabl}

-- the face on the way from a source to a router, and how far the router is, where faces are found by their ids
abbrev pub way_to : Network → (Zid → Option ℕ) → ℕ → ℕ → Option (ℕ × ℕ)
way_to net face source router = do
  step ← towards net source (record { 0 = router })
  n ← face step.0
  Some (n, step.1)

-- the offer for a router's entry, where it is known whether the key includes the request's
abbrev pub router_offer : Region → Bool → List ℕ → ℕ → QueryableInfoType → ℕ × ℕ → QueryTargetQabl
router_offer region included key source i way =
    record { face = record { 0 = way.0 }; info = Some (record { complete = i.complete && included; distance = way.1 }); key = key; region = region; node = source }

-- the same, if the tables lead there
abbrev pub entry_offer : Network → (Zid → Option ℕ) → Region → ℕ → Bool → List ℕ → ℕ × QueryableInfoType → List QueryTargetQabl
entry_offer net face region source included key e = option_to_list (option_map (router_offer region included key source e.1) (way_to net face source e.0))

-- the offers for the entries on a key
abbrev pub routed_offers : Network → (Zid → Option ℕ) → Region → ℕ → List ℕ → List ℕ × Routed → List QueryTargetQabl
routed_offers net face region source q k = flat_map (entry_offer net face region source (includes k.0 q) k.0) k.1
