-- Which offers a request is handed to.
use Rattle.std.specs.Prelude.{ℕ, ◌==◌, Bool, true, false, not, ◌&&◌, List, [], map, Option, Some, None, if◌then◌else◌}
use Rattle.std.specs.List.{filter}
use Rattle.std.specs.Map.{values_of}
use Rattle.std.specs.Option.{option_and_then, option_map}
use Rattle.zq_key.specs.Key.{is_key}
use Rattle.zq_message.specs.declared.message.FaceId.{FaceId}
use Rattle.zq_message.specs.declared.message.QueryTarget.{QueryTarget}
use Rattle.zq_message.specs.declared.message.Request.{Request}
use Rattle.zq_message.specs.declared.message.Zid.{Zid}
use Rattle.zq_strategy.specs.declared.offer.QueryTargetQabl.{QueryTargetQabl}
use Rattle.zq_strategy.specs.State.{HatState}
use Rattle.zq_strategy.specs.Offers.{offers_of}
use Rattle.zq_strategy.specs.Regions.{same_region}
use Rattle.zq_strategy.specs.Routers.{context_at, source_at}
use Rattle.zq_tables.specs.declared.resolved.Resolved.{Resolved}
use Rattle.zq_tables.specs.declared.resolved.Resolved.TheVariants as said
use Rattle.zq_route.specs.declared.filter.InterRegionFilter.{InterRegionFilter}
use Rattle.zq_route.specs.declared.gateways.Gateways.{Gateways}
use Rattle.zq_route.specs.Filter.{passes_between}
use Rattle.zq_route.specs.Selection.{picked, with_offers}
use Rattle.zq_interests.specs.declared.types.InterestEntry.{InterestEntry}
use Rattle.zq_machine.specs.declared.face.OpenFace.{OpenFace}
use Rattle.zq_machine.specs.State.{Core, at, hat_of, is_region}

-- the expression's scope stands for nothing
abbrev pub is_unscoped : Resolved → Bool
is_unscoped said.Unscoped = true
is_unscoped said.Empty = false
is_unscoped (said.Full text) = false

-- the full text is a key
abbrev pub says_key : Resolved → Bool
says_key said.Unscoped = false
says_key said.Empty = false
says_key (said.Full text) = is_key text

-- the full text is a key, or there is none to be one
abbrev pub says_key_or_nothing : Resolved → Bool
says_key_or_nothing said.Unscoped = false
says_key_or_nothing said.Empty = true
says_key_or_nothing (said.Full text) = is_key text

-- the text that is said; the empty one where none is
abbrev pub full_text : Resolved → List ℕ
full_text said.Unscoped = []
full_text said.Empty = []
full_text (said.Full text) = text

-- what an interest asks for besides: that numbers be declared for keys, and to hear of its key alone, aggregated
pub record Manner : Type 0 where
  pub keys : Bool
  pub aggregate : Bool

-- what an interest asks for: all that meets its key, or, with no expression, all; and in which manner
abbrev pub asked_by : Manner → Option Resolved → InterestEntry
asked_by m s = record { key = option_map full_text s; keys = m.keys; aggregate = m.aggregate }

-- the face of an offer
abbrev pub target_of : QueryTargetQabl → FaceId
target_of o = o.face

-- an open face's id
abbrev pub zid_in : OpenFace → Zid
zid_in o = o.zid

-- the id of an open face
abbrev pub zid_of : ℕ → List (ℕ × OpenFace) → Option Zid
zid_of face faces = option_map zid_in (at face faces)

-- the router that a node number of the face stands for; outside regions of routers the face itself
abbrev pub router_by : FaceId → ℕ → Core → Option Zid
router_by face node c = option_and_then (source_at face.0 node) (hat_of face.0 c)

-- the place of that router in the network of the face's region; outside regions of routers the first
abbrev pub place_by : FaceId → ℕ → Core → Option ℕ
place_by face node c = option_and_then (context_at face.0 node) (hat_of face.0 c)

-- who asks, and what decides between regions: the open faces, the gateways that were listed and the gateway's id; the asker; the router that its request comes from, or the asker itself, and the place of that router
pub record AskerState : Type 0 where
  pub faces : List (ℕ × OpenFace)
  pub tables : List (ℕ × Gateways)
  pub own : Zid
  pub face : FaceId
  pub opened : OpenFace
  pub source : Option Zid
  pub context : Option ℕ

-- an open face that asks with a request of this node
abbrev pub asker_in : Core → FaceId → ℕ → OpenFace → AskerState
asker_in c asker node opened = record { faces = c.faces; tables = c.tables; own = c.config.zid; face = asker; opened = opened; source = router_by asker node c; context = place_by asker node c }

-- the filter between an asker's region and an offer's
abbrev pub filter_for : AskerState → QueryTargetQabl → InterRegionFilter
filter_for a o = record { src = a.opened.region; dst = o.region; src_zid = a.source; fwd_zid = Some a.opened.zid; dst_zid = zid_of o.face.0 a.faces }

-- the gateway is the one to carry a request between two of its regions
abbrev pub carries_between : List (ℕ × Gateways) → Zid → InterRegionFilter → Bool
carries_between tables own f = is_region f.src && is_region f.dst && passes_between f tables own

-- the offer is for a request of the asker: it is another face's, and the gateway is the one to carry it
abbrev pub passes : AskerState → QueryTargetQabl → Bool
passes a o = not (o.face.0 == a.face.0) && carries_between a.tables a.own (filter_for a o)

-- what a region offers to the asker; in its own region by the place that its request comes from
abbrev pub offers_to : AskerState → List ℕ → HatState → List QueryTargetQabl
offers_to a key h = offers_of h a.opened.region key (if same_region a.opened.region h.region then a.context else Some 0)

-- what a region offers to the asker, and passes
abbrev pub part_for : AskerState → List ℕ → HatState → List QueryTargetQabl
part_for a key h = filter (passes a) (offers_to a key h)

-- the offers that pass, region by region, in the order of the regions' places
abbrev pub parts_for : AskerState → List ℕ → List HatState → List (List QueryTargetQabl)
parts_for a key hats = map (part_for a key) hats

-- what the target picks of them, under the configuration's choice, each face once
abbrev pub route_for : Core → AskerState → List ℕ → QueryTarget → List (ℕ × QueryTargetQabl)
route_for c a key target = with_offers [] (picked c.config.best target (parts_for a key (values_of c.hats)))

-- the offers that a request of an open face is handed to
abbrev pub select_for : Core → FaceId → Resolved → Request → Option OpenFace → List QueryTargetQabl
select_for c asker s r None = []
select_for c asker s r (Some opened) = if says_key s then values_of (route_for c (asker_in c asker r.node opened) (full_text s) r.target) else []

-- the offers that a request is handed to
abbrev pub select : Core → FaceId → Resolved → Request → List QueryTargetQabl
select c asker s r = select_for c asker s r (at asker.0 c.faces)
