-- What is due to each face outside regions of routers, by the calls and answers so far.
use Rattle.std.specs.Prelude.{ℕ, ◌==◌, Bool, true, false, not, ◌||◌, ◌&&◌, List, [], map, filter, fold, Option, Some, None, if◌then◌else◌}
use Rattle.std.specs.BTreeSet.{insert_key}
use Rattle.std.specs.List.{flat_map, list_any}
use Rattle.std.specs.Option.{option_and_then, option_map}
use Rattle.zq_message.specs.declared.message.QueryableInfoType.{QueryableInfoType}
use Rattle.zq_message.specs.declared.message.Region.{Region}
use Rattle.zq_message.specs.Region.{region_index}
use Rattle.zq_key.specs.Key.{includes, intersects}
use Rattle.zq_index.specs.Infos.{joined}
use Rattle.zq_index.specs.Texts.{text_cmp}
use Rattle.zq_interests.specs.Interests.{wants, wants_folded}
use Rattle.zq_strategy.specs.declared.types.Strategy.{Strategy}
use Rattle.zq_strategy.specs.declared.types.Strategy.TheVariants as strategy
use Rattle.zq_strategy.specs.Fellows.{fellow_info}
use Rattle.zq_strategy.specs.Kept.{region_info}
use Rattle.zq_strategy.specs.Regions.{is_north}
use Rattle.zq_strategy.specs.Trees.{region_keys}
use Rattle.zq_machine.specs.Configs.{Settings}
use Rattle.zq_trace.specs.Faces.{Face, Trace, face_at}
use Rattle.zq_trace.specs.Selected.{hat_in, is_routers, regions, strategy_in}

-- ---- what there is to hear

-- the merge of all that there is
abbrev pub merged : List (Option QueryableInfoType) → Option QueryableInfoType
merged infos = fold joined None infos

-- what the other regions have on a key, merged
abbrev pub of_others : Settings → Trace → Region → List ℕ → Option QueryableInfoType
of_others config past r key = merged (map (λ o. region_info key (hat_in config past o)) (filter (λ o. not (region_index o == region_index r)) (regions config)))

-- the faces of a region hear of one another: it is Local, or one of clients in the South
abbrev pub is_brokers : Strategy → Bool
is_brokers strategy.Broker = true
is_brokers s = false

-- what the other faces of a region declared on a key, merged, where they hear of one another
abbrev pub of_fellows : Settings → Trace → ℕ → Region → List ℕ → Option QueryableInfoType
of_fellows config past n r key = if is_brokers (strategy_in config r) then fellow_info n key (hat_in config past r) else None

-- what a face hears on a key: of its fellows, where they hear of one another, and of the other regions
abbrev pub hears : Settings → Trace → ℕ → Face → List ℕ → Option QueryableInfoType
hears config past n f key = joined (of_fellows config past n f.region key) (of_others config past f.region key)

-- ---- aggregated, for a key, over all keys that meet it

-- the keys on which regions have something, each once, in order
abbrev pub all_keys : Settings → Trace → List (List ℕ)
all_keys config past = fold (insert_key text_cmp) [] (flat_map (λ r. region_keys (hat_in config past r)) (regions config))

-- what is heard on a key as a part of what is told of another: it is complete only if that key includes the other
abbrev pub part_of : List ℕ → List ℕ → QueryableInfoType → QueryableInfoType
part_of key k i = record { complete = i.complete && includes k key; distance = i.distance }

-- what a face hears on all keys that meet the key, merged
abbrev pub hears_in_all : Settings → Trace → ℕ → Face → List ℕ → Option QueryableInfoType
hears_in_all config past n f key = merged (map (λ k. option_map (part_of key k) (hears config past n f k)) (filter (λ k. intersects k key) (all_keys config past)))

-- ---- what is due

-- a face outside regions of routers is to be told of a key: unasked in North, and elsewhere where it asks
abbrev pub is_interested : List ℕ → Face → Bool
is_interested key f = is_north f.region || list_any (wants key) f.interests

-- such a face is to be told of a key aggregated: where it asks so, and is not in North
abbrev pub is_aggregating : List ℕ → Face → Bool
is_aggregating key f = not (is_north f.region) && list_any (wants_folded key) f.interests

-- an open face outside regions of routers
abbrev pub neighbour : Settings → Trace → ℕ → Option Face
neighbour config past n = option_and_then (λ (f : Face). if is_routers (strategy_in config f.region) then None else Some f) (face_at past n)

-- what is due on a key to a face outside regions of routers
abbrev pub due_to : Settings → Trace → ℕ → List ℕ → Face → Option QueryableInfoType
due_to config past n key f = if is_interested key f then (if is_aggregating key f then hears_in_all config past n f key else hears config past n f key) else None

-- what is due to a face on a key: nothing, if it is not open, or among routers
abbrev pub due : Settings → Trace → ℕ → List ℕ → Option QueryableInfoType
due config past n key = option_and_then (due_to config past n key) (neighbour config past n)
