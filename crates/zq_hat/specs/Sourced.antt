-- Who declared each key of a region, and who asks for it; and of all regions.
use Rattle.std.specs.Prelude.{ℕ, Bool, List, [], filter, map, Option, Some, None, option_map, if◌then◌else◌}
use Rattle.std.specs.List.{filter_map, flat_map}
use Rattle.zq_key.specs.Key.{intersects}
use Rattle.zq_message.specs.declared.message.Mode.{Mode}
use Rattle.zq_message.specs.declared.message.Mode.TheVariants as mode
use Rattle.zq_message.specs.declared.message.QueryableInfoType.{QueryableInfoType}
use Rattle.zq_message.specs.declared.message.Zid.{Zid}
use Rattle.zq_strategy.specs.Entries.{Entries, Routed, is_another, is_by}
use Rattle.zq_strategy.specs.declared.types.Declaration.{Declaration}
use Rattle.zq_strategy.specs.declared.types.Strategy.{Strategy}
use Rattle.zq_strategy.specs.declared.types.Strategy.TheVariants as strategy
use Rattle.zq_strategy.specs.Regions.{in_routers, is_north, strategy_at}
use Rattle.zq_strategy.specs.State.{FaceState, HatState}
use Rattle.zq_interests.specs.declared.types.InterestEntry.{InterestEntry}
use Rattle.zq_interests.specs.Interests.{Interests, interests_of}
use Rattle.zq_hat.specs.declared.sources.Source.{Source}
use Rattle.zq_hat.specs.Sources.{SourceTexts}
use Rattle.zq_hat.specs.Joining.{Part, parts_joined}
use Rattle.zq_hat.specs.Listings.{Listing, listed}

-- the mode under which a face of a region counts: in a client region its own
abbrev pub source_mode : Strategy → Mode → Mode
source_mode strategy.Broker m = mode.Client
source_mode strategy.Client m = m
source_mode strategy.Peer m = mode.Peer
source_mode strategy.Router m = mode.Router

-- the face, as one who declares and asks
abbrev pub face_source : Strategy → FaceState → Source
face_source k f = record { zid = f.zid; mode = source_mode k f.mode }

-- ---- who declared each key

-- who declared a key, on it
abbrev pub declaration_listing : Source → ℕ × Declaration → Listing
declaration_listing o d = (d.1.key, o)

-- the face on each key that it declared, by id, once for each declaration
abbrev pub declared_by : Strategy → ℕ × FaceState → List Listing
declared_by k f = map (declaration_listing (face_source k f.1)) f.1.declared

-- who declared the keys of faces: by face, then by id
abbrev pub declared_listings : Strategy → List (ℕ × FaceState) → List Listing
declared_listings k faces = flat_map (declared_by k) faces

-- a router with an entry on a key, on it
abbrev pub router_listing : List ℕ → ℕ × QueryableInfoType → Listing
router_listing key e = (key, record { zid = record { 0 = e.0 }; mode = mode.Router })

-- the routers with an entry on a key, by id, but for the gateway itself
abbrev pub routed_by : Zid → List ℕ × Routed → List Listing
routed_by own k = map (router_listing k.0) (filter (is_by (is_another own)) k.1)

-- the routers with entries on keys: by key, then by id
abbrev pub routed_listings : Zid → Entries → List Listing
routed_listings own entries = flat_map (routed_by own) entries

-- who declared the keys of the region
abbrev pub queryable_listings : HatState → List Listing
queryable_listings h = in_routers (strategy_at h) (routed_listings h.own h.entries) (declared_listings (strategy_at h) h.faces)

-- who declared each key of the region
abbrev pub sourced_queryables : HatState → SourceTexts
sourced_queryables h = listed (queryable_listings h)

-- ---- who asks for each key

-- who asks for a key, on it; who asks for all is on none
abbrev pub asked_listing : Source → ℕ × InterestEntry → Option Listing
asked_listing o i = option_map (λ key. (key, o)) i.1.key

-- the face on each key of its interests, by id, once for each interest
abbrev pub asked_by : Strategy → Interests → ℕ × FaceState → List Listing
asked_by k ints f = filter_map (asked_listing (face_source k f.1)) (interests_of f.0 ints)

-- which faces ask for keys: by face, then by id
abbrev pub asked_listings : Strategy → Interests → List (ℕ × FaceState) → List Listing
asked_listings k ints faces = flat_map (asked_by k ints) faces

-- who asks in a region of the strategy: in those of brokers and peers alone it is known
abbrev pub listings_by : Strategy → Interests → List (ℕ × FaceState) → List Listing
listings_by strategy.Broker ints faces = asked_listings strategy.Broker ints faces
listings_by strategy.Client ints faces = []
listings_by strategy.Peer ints faces = asked_listings strategy.Peer ints faces
listings_by strategy.Router ints faces = []

-- who asks for the keys of the region
abbrev pub querier_listings : Interests → HatState → List Listing
querier_listings ints h = listings_by (strategy_at h) ints h.faces

-- who asks for each key of the region
abbrev pub sourced_queriers : Interests → HatState → SourceTexts
sourced_queriers ints h = listed (querier_listings ints h)

-- ---- of all regions

-- the gateway counts behind what a south-bound region has
abbrev pub own_behind : Source → HatState → Option Source
own_behind own h = if is_north h.region then None else Some own

-- who declared each key of a region, with the gateway behind them where it counts
abbrev pub queryables_part : Source → ℕ × HatState → Part
queryables_part own h = (own_behind own h.1, sourced_queryables h.1)

-- who declared each key: region by region, in the order of their places
abbrev pub all_queryables : Source → List (ℕ × HatState) → SourceTexts
all_queryables own hats = parts_joined (map (queryables_part own) hats)

-- who asks for each key of a region
abbrev pub queriers_part : Interests → ℕ × HatState → Part
queriers_part ints h = (None, sourced_queriers ints h.1)

-- who asks for each key: region by region, in the order of their places
abbrev pub all_queriers : Interests → List (ℕ × HatState) → SourceTexts
all_queriers ints hats = parts_joined (map (queriers_part ints) hats)

-- ---- on keys that meet one that is asked for

-- the entry's key meets the one that is asked for
abbrev pub is_asked : {V : Type 0} → List ℕ → List ℕ × V → Bool
is_asked asked e = intersects asked e.0

-- who declared each key that meets the one that is asked for
abbrev pub queryables_on : List ℕ → Source → List (ℕ × HatState) → SourceTexts
queryables_on asked own hats = filter (is_asked asked) (all_queryables own hats)

-- who asks for each key that meets the one that is asked for
abbrev pub queriers_on : List ℕ → Interests → List (ℕ × HatState) → SourceTexts
queriers_on asked ints hats = filter (is_asked asked) (all_queriers ints hats)
