-- Which offers a request is handed to, by the calls and answers before it.
use Rattle.std.specs.Prelude.{ℕ, ◌==◌, Bool, true, false, not, ◌&&◌, List, [], ◌∷◌, fold, map, Option, Some, None, if◌then◌else◌, slice_get}
use Rattle.std.specs.List.{filter, filter_map}
use Rattle.std.specs.Map.{values_of}
use Rattle.std.specs.Option.{option_and_then, option_map, option_map_or}
use Rattle.zq_message.specs.declared.message.FaceId.{FaceId}
use Rattle.zq_message.specs.declared.message.Region.{Region}
use Rattle.zq_message.specs.declared.message.Request.{Request}
use Rattle.zq_message.specs.declared.message.Zid.{Zid}
use Rattle.zq_namespace.specs.Denied.{is_denied}
use Rattle.zq_message.specs.Region.{region_index}
use Rattle.zq_message.specs.RegionMap.{with_entry as with_value}
use Rattle.zq_strategy.specs.declared.offer.QueryTargetQabl.{QueryTargetQabl}
use Rattle.zq_strategy.specs.declared.types.Strategy.{Strategy}
use Rattle.zq_strategy.specs.declared.types.Strategy.TheVariants as strategy
use Rattle.zq_strategy.specs.Nets.{no_network, place_of}
use Rattle.zq_strategy.specs.Offers.{offers_of}
use Rattle.zq_strategy.specs.Regions.{same_region, strategy_of}
use Rattle.zq_strategy.specs.State.{FaceState, HatState}
use Rattle.zq_route.specs.declared.filter.InterRegionFilter.{InterRegionFilter}
use Rattle.zq_route.specs.declared.gateways.Gateways.{Gateways}
use Rattle.zq_route.specs.Selection.{picked as by_target, with_offers}
use Rattle.zq_tables.specs.declared.resolved.Resolved.{Resolved}
use Rattle.zq_machine.specs.declared.config.Entry.{Entry}
use Rattle.zq_machine.specs.declared.call.Call.{Call}
use Rattle.zq_machine.specs.declared.call.Call.TheVariants as call
use Rattle.zq_machine.specs.Configs.{Settings, north_of, region_of}
use Rattle.zq_machine.specs.Deciding.{is_accepted}
use Rattle.zq_machine.specs.Selecting.{carries_between, full_text, says_key}
use Rattle.zq_machine.specs.Standing.{Routed, with_network, with_routed, without_routed}
use Rattle.zq_trace.specs.Faces.{Face, Trace, face_at, faces, says}

-- ---- regions

-- the regions of the configuration, by their indices
abbrev pub regions : Settings → List Region
regions config = values_of (fold (λ rs (e : Entry). with_value rs (region_of e) (region_of e)) [] config.entries)

-- the strategy of a region
abbrev pub strategy_in : Settings → Region → Strategy
strategy_in config r = strategy_of r (north_of config.entries)

-- it is one of routers
abbrev pub is_routers : Strategy → Bool
is_routers strategy.Router = true
is_routers s = false

-- with the list that a call hands in
abbrev pub listed : Call → List (ℕ × Gateways) → List (ℕ × Gateways)
listed (call.SetGateways r table) was = with_value was r table
listed c was = was

-- the lists of gateways
abbrev pub gateways : Trace → List (ℕ × Gateways)
gateways [] = []
gateways (x ∷ past) = if is_accepted x.1.outcome then listed x.0 (gateways past) else gateways past

-- a face with its number, where it is of the region
abbrev pub in_region : Region → ℕ → Face → Option (ℕ × Face)
in_region r n f = if region_index f.region == region_index r then Some (n, f) else None

-- the open faces of a region
abbrev pub faces_in : Trace → Region → List (ℕ × Face)
faces_in past r = filter_map (λ n. option_and_then (in_region r n) (face_at past n)) (faces past)

-- ---- what routers announced

-- what a face of the region makes of the routers there: the one that it speaks for is the one that its node stands for
abbrev pub by_router : Region → ℕ → (Face → Routed → Zid → Routed) → Routed → Face → Routed
by_router r node makes was f = if region_index f.region == region_index r then option_map_or (makes f was) (slice_get f.nodes.ids node) was else was

-- what an accepted call makes of the routers of a region: of their entries on keys, or of the network that is put in place
abbrev pub announced : Region → Call → Trace → Routed → Routed
announced r (call.DeclareQueryable face id w info node) past was = option_map_or (by_router r node (λ f. with_routed (full_text (says w f)) info) was) (face_at past face.0) was
announced r (call.UndeclareQueryable face id w node) past was = option_map_or (by_router r node (λ f. without_routed (option_map_or (λ x. full_text (says x f)) w [])) was) (face_at past face.0) was
announced r (call.SetNetwork region net) past was = if region_index region == region_index r then with_network net was else was
announced r c past was = was

-- what stands of the routers of a region of routers
abbrev pub routers : Trace → Region → Routed
routers [] r = record { entries = []; network = no_network }
routers (x ∷ past) r = if is_accepted x.1.outcome then announced r x.0 past (routers past r) else routers past r

-- ---- what a region offers

-- what a region has of an open face, but for the id that it was told last
abbrev pub seen : Face → FaceState
seen f = record { zid = f.zid; mode = f.mode; remote_bound = f.bound; declared = f.queryables; last_told = 0; initial = f.initial; finalized = f.finalized; nodes = f.nodes }

-- what stands of a region: its open faces, and what its routers announced
abbrev pub hat_in : Settings → Trace → Region → HatState
hat_in config past r = record { region = r; north_mode = north_of config.entries; own = config.zid; told_start = 0; faces = map (λ (f : ℕ × Face). (f.0, seen f.1)) (faces_in past r); entries = (routers past r).entries; network = (routers past r).network }

-- the place of the router that a node of the face stands for, in the network of its region; outside regions of routers the first
abbrev pub place_in : Settings → Trace → ℕ → Face → Option ℕ
place_in config past node f = if is_routers (strategy_in config f.region) then option_and_then (place_of (routers past f.region).network) (slice_get f.nodes.ids node) else Some 0

-- what a region offers to a face that asks for a key, with a node
abbrev pub offers_in : Settings → Trace → ℕ → Face → List ℕ → Region → List QueryTargetQabl
offers_in config past node f q r = offers_of (hat_in config past r) f.region q (if same_region f.region r then place_in config past node f else Some 0)

-- ---- who carries a request

-- the router that a node of the face stands for; outside regions of routers the face itself
abbrev pub source_of : Settings → ℕ → Face → Option Zid
source_of config node f = if is_routers (strategy_in config f.region) then slice_get f.nodes.ids node else Some f.zid

-- the regions and the ids between which an offer is carried
abbrev pub filter_of : Settings → Trace → ℕ → Face → QueryTargetQabl → InterRegionFilter
filter_of config past node f o = record { src = f.region; dst = o.region; src_zid = source_of config node f; fwd_zid = Some f.zid; dst_zid = option_map (λ (t : Face). t.zid) (face_at past o.face.0) }

-- the offer is another face's, and the gateway is the one to carry the request there
abbrev pub passes : Settings → Trace → FaceId → ℕ → Face → QueryTargetQabl → Bool
passes config past asker node f o = not (o.face.0 == asker.0) && carries_between (gateways past) config.zid (filter_of config past node f o)

-- ---- what is picked

-- the text that is said, if it is a key that is not denied
abbrev pub allowed_key : List (List ℕ) → Resolved → Option (List ℕ)
allowed_key denied s = if says_key s && not (is_denied denied (full_text s)) then Some (full_text s) else None

-- the key that a face asks for
abbrev pub asked_key : Trace → FaceId → Request → Option (List ℕ)
asked_key past face r = option_and_then (λ (f : Face). allowed_key f.denied (says r.wire f)) (face_at past face.0)

-- the offers of a region that pass
abbrev pub passing : Settings → Trace → FaceId → Request → List ℕ → Face → Region → List QueryTargetQabl
passing config past asker r q f place = filter (passes config past asker r.node f) (offers_in config past r.node f q place)

-- what the target picks of the offers that pass, region by region or, where the configuration says so, the best one of all regions together; each face once
abbrev pub picked : Settings → Trace → FaceId → Request → List ℕ → Face → List QueryTargetQabl
picked config past asker r q f = values_of (with_offers [] (by_target config.best r.target (map (passing config past asker r q f) (regions config))))

-- the offers that a request is handed to: none where it says no key or asks for a denied one
abbrev pub select : Settings → Trace → FaceId → Request → List QueryTargetQabl
select config past asker r = option_map_or (λ (f : Face). option_map_or (λ q. picked config past asker r q f) (asked_key past asker r) []) (face_at past asker.0) []
