-- Entries of routers that a request does not reach, as no way leads to them.
use Rattle.std.specs.Prelude.{ℕ, List, [], Option, Some, if◌then◌else◌}
use Rattle.std.specs.List.{flat_map}
use Rattle.std.specs.Map.{values_of}
use Rattle.std.specs.Option.{option_map_or}
use Rattle.zq_message.specs.declared.message.FaceId.{FaceId}
use Rattle.zq_message.specs.declared.message.Request.{Request}
use Rattle.zq_message.specs.declared.message.Zid.{Zid}
use Rattle.zq_strategy.specs.Regions.{in_routers, strategy_at}
use Rattle.zq_strategy.specs.State.{HatState}
use Rattle.zq_hat.specs.Unreached.{unreached}
use Rattle.zq_hat.specs.declared.unreached.RouterEntry.{RouterEntry}
use Rattle.zq_tables.specs.declared.resolved.Resolved.{Resolved}
use Rattle.zq_machine.specs.Selecting.{AskerState, full_text, says_key}
use Rattle.zq_show.specs.Reasons.{asker_for, node_for}
use Rattle.zq_show.specs.Seen.{SeenState, said_in}

-- the entries of a region's routers on keys that meet the key to which no way leads from the asker
abbrev pub unreached_in : AskerState → List ℕ → HatState → List RouterEntry
unreached_in a key h = in_routers (strategy_at h) (unreached h a.opened.region key (node_for a h)) []

-- those of all regions, on what an expression says
unfoldable pub unreached_on : List (ℕ × HatState) → AskerState → Resolved → List RouterEntry
unreached_on hats a said = if says_key said then flat_map (unreached_in a (full_text said)) (values_of hats) else []

-- those on keys that meet a request's
abbrev pub unreached_for : List (ℕ × HatState) → Zid → SeenState → FaceId → Request → List RouterEntry
unreached_for hats own seen face r =
    option_map_or (λ (a : AskerState). unreached_on hats a (said_in seen.names seen.gates face r.wire)) (asker_for hats own seen face r.node) []
