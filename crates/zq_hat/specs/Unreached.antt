-- The entries of routers to which no way leads.
use Rattle.std.specs.Prelude.{ℕ, Bool, List, Option, filter, is_none, map}
use Rattle.std.specs.List.{flat_map}
use Rattle.std.specs.Option.{option_and_then}
use Rattle.zq_message.specs.declared.message.QueryableInfoType.{QueryableInfoType}
use Rattle.zq_message.specs.declared.message.Region.{Region}
use Rattle.zq_message.specs.declared.message.Zid.{Zid}
use Rattle.zq_strategy.specs.declared.network.Network.{Network}
use Rattle.zq_strategy.specs.Entries.{Routed}
use Rattle.zq_strategy.specs.Met.{is_met}
use Rattle.zq_strategy.specs.Routed.{way_to}
use Rattle.zq_strategy.specs.Routers.{face_with, source_for}
use Rattle.zq_strategy.specs.State.{HatState}
use Rattle.zq_hat.specs.declared.unreached.RouterEntry.{RouterEntry}

-- no open face stands on the way from a source to a router, where faces are found by their ids
abbrev pub is_unreached : Network → (Zid → Option ℕ) → Option ℕ → ℕ × QueryableInfoType → Bool
is_unreached net face source e = is_none (option_and_then (λ n. way_to net face n e.0) source)

-- a router's entry on a key
abbrev pub entry_on : List ℕ → ℕ × QueryableInfoType → RouterEntry
entry_on key e = record { key = key; router = record { 0 = e.0 } }

-- the entries on a key to which no way leads
abbrev pub unreached_on : Network → (Zid → Option ℕ) → Option ℕ → List ℕ × Routed → List RouterEntry
unreached_on net face source k = map (entry_on k.0) (filter (is_unreached net face source) k.1)

-- the entries on keys that meet the request's to which no way leads, by key and router
abbrev pub unreached : HatState → Region → List ℕ → Option ℕ → List RouterEntry
unreached s src q node = flat_map (unreached_on s.network (λ zid. face_with zid s.faces) (source_for s src node)) (filter (is_met q) s.entries)
