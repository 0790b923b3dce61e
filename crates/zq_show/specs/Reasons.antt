-- Why a queryable that meets the key of a request was not asked: at which stage of the selection it went.
use Rattle.std.specs.Prelude.{ℕ, ◌==◌, Bool, true, false, not, ◌&&◌, ◌||◌, List, [], ◌∷◌, ◌++◌, Option, Some, None, if◌then◌else◌, filter, fold, is_none, is_some}
use Rattle.std.specs.List.{flat_map, list_any}
use Rattle.std.specs.Option.{option_and_then, option_map, option_map_or}
use Rattle.std.specs.Map.{values_of}
use Rattle.zq_key.specs.Key.{is_key}
use Rattle.zq_message.specs.declared.message.FaceId.{FaceId}
use Rattle.zq_message.specs.declared.message.QueryTarget.{QueryTarget}
use Rattle.zq_message.specs.declared.message.QueryTarget.TheVariants as target
use Rattle.zq_message.specs.declared.message.Region.{Region}
use Rattle.zq_message.specs.declared.message.Region.TheVariants as region
use Rattle.zq_message.specs.declared.message.Request.{Request}
use Rattle.zq_message.specs.declared.message.Zid.{Zid}
use Rattle.zq_namespace.specs.Denied.{is_denied}
use Rattle.zq_strategy.specs.Kept.{has_face as has_face_of}
use Rattle.zq_strategy.specs.Offers.{offers_of}
use Rattle.zq_strategy.specs.Regions.{same_region, strategy_at}
use Rattle.zq_strategy.specs.Routers.{context_at, source_at}
use Rattle.zq_strategy.specs.State.{HatState}
use Rattle.zq_strategy.specs.declared.offer.QueryTargetQabl.{QueryTargetQabl}
use Rattle.zq_strategy.specs.declared.types.Strategy.{Strategy}
use Rattle.zq_strategy.specs.declared.types.Strategy.TheVariants as strategy
use Rattle.zq_route.specs.Built.{has_face}
use Rattle.zq_route.specs.Filter.{gateways_of, greatest, has_zid}
use Rattle.zq_route.specs.Selection.{is_complete, may_be_complete, nearest}
use Rattle.zq_route.specs.declared.selection.Best.{Best}
use Rattle.zq_route.specs.declared.selection.Best.TheVariants as best
use Rattle.zq_machine.specs.Configs.{Settings}
use Rattle.zq_route.specs.declared.filter.InterRegionFilter.{InterRegionFilter}
use Rattle.zq_route.specs.declared.gateways.Gateways.{Gateways}
use Rattle.zq_tables.specs.declared.resolved.Resolved.{Resolved}
use Rattle.zq_machine.specs.Gates.{denied_by, gate_at}
use Rattle.zq_machine.specs.Selecting.{AskerState, carries_between, filter_for, full_text, offers_to, says_key}
use Rattle.zq_machine.specs.State.{at, hat_at, is_region}
use Rattle.zq_machine.specs.declared.face.OpenFace.{OpenFace}
use Rattle.zq_show.specs.Seen.{Owned, SeenState, ids_on, said_in}
use Rattle.zq_show.specs.declared.reasons.Judgement.{Judgement}
use Rattle.zq_show.specs.declared.reasons.Missed.{Missed}
use Rattle.zq_show.specs.declared.reasons.Panel.{Panel}
use Rattle.zq_show.specs.declared.reasons.Reason.{Reason}
use Rattle.zq_show.specs.declared.reasons.Reason.TheVariants as reason
use Rattle.zq_show.specs.declared.reasons.Verdict.{Verdict}

-- the gateway of a list that carries what a node asks; none where the node is itself listed, or is not known
abbrev pub carrier_in : Option (List Zid) → Option Zid → Option Zid
carrier_in None source = None
carrier_in (Some zids) None = None
carrier_in (Some zids) (Some source) = if has_zid source zids then None else Some (record { 0 = greatest zids })

-- the gateway that carries a request between two regions, where a list says one
abbrev pub carrier : List (ℕ × Gateways) → InterRegionFilter → Option Zid
carrier lists f = if is_region f.src && is_region f.dst then carrier_in (gateways_of f lists) f.src_zid else None

-- what an offer meets between two regions
abbrev pub between : AskerState → InterRegionFilter → Option Reason
between a f = if carries_between a.tables a.own f then None else Some (reason.Carried (carrier a.tables f))

-- what an offer meets before the target looks at it
abbrev pub barrier : Panel → AskerState → QueryTargetQabl → Option Reason
barrier p a o =
    if p.denied then Some reason.Denied
    else (if o.face.0 == a.face.0 then Some reason.Own
    else (if p.beside then Some reason.Region
    else between a (filter_for a o)))

-- the offer is complete, and reaches the target
abbrev pub is_best : Panel → AskerState → QueryTargetQabl → Bool
is_best p a o = is_complete o && is_none (barrier p a o)

-- the target picks an offer, where one of those that reach it is complete, and a complete one came before
abbrev pub picks : QueryTarget → Bool → Bool → QueryTargetQabl → Bool
picks target.All complete found o = true
picks target.AllComplete complete found o = may_be_complete o
picks target.BestMatching complete found o = not complete || (is_complete o && not found)

-- the target picks an offer that reaches it
abbrev pub is_picked : Panel → Bool → QueryTargetQabl → Bool
is_picked p found o = picks p.target p.complete (found || p.elsewhere) o

-- why the target does not pick an offer
abbrev pub unpicked : QueryTarget → Reason
unpicked target.All = reason.Farther
unpicked target.AllComplete = reason.Incomplete
unpicked target.BestMatching = reason.Farther

-- why an offer that reaches the target is not asked, if it isn't
abbrev pub picked_after : Panel → Verdict → QueryTargetQabl → Option Reason
picked_after p v o =
    if not (is_picked p v.found o) then Some (unpicked p.target)
    else (if has_face o.face.0 v.taken then Some reason.Earlier else None)

-- what a face declared on the key of an offer
abbrev pub missed_at : Owned → QueryTargetQabl → Reason → Missed
missed_at owned o r = record { face = o.face; key = o.key; ids = ids_on o.face.0 o.key owned; reason = r }

-- what was not asked, with one more where a declaration stands behind the offer
abbrev pub with_missed : Owned → List Missed → QueryTargetQabl → Reason → List Missed
with_missed owned missed o r = if is_none o.info then missed else missed ++ missed_at owned o r ∷ []

-- an offer is missed, or its face is taken
abbrev pub missed_or_taken : Owned → Verdict → QueryTargetQabl → Option Reason → Verdict
missed_or_taken owned v o None = record v { taken = v.taken ++ (o.face.0, o.face) ∷ [] }
missed_or_taken owned v o (Some r) = record v { missed = with_missed owned v.missed o r }

-- a complete offer was found
abbrev pub found_with : QueryTargetQabl → Verdict → Verdict
found_with o v = record v { found = v.found || is_complete o }

-- what comes of an offer that reaches the target
abbrev pub picked : Owned → Panel → Verdict → QueryTargetQabl → Verdict
picked owned p v o = found_with o (missed_or_taken owned v o (picked_after p v o))

-- what comes of an offer, by what it meets before
abbrev pub judged_by : Owned → Panel → Verdict → QueryTargetQabl → Option Reason → Verdict
judged_by owned p v o None = picked owned p v o
judged_by owned p v o (Some r) = record v { missed = with_missed owned v.missed o r }

-- what comes of an offer
unfoldable pub judged : Owned → Panel → AskerState → Verdict → QueryTargetQabl → Verdict
judged owned p a v o = judged_by owned p v o (barrier p a o)

-- before the offers of a region
abbrev pub first_verdict : List Missed → Verdict
first_verdict missed = record { missed = missed; taken = []; found = false }

-- a region of clients or peers
abbrev pub is_silent : Strategy → Bool
is_silent strategy.Broker = false
is_silent strategy.Client = true
is_silent strategy.Peer = true
is_silent strategy.Router = false

-- a region offers nothing to an asker: one of clients or peers, to its own
abbrev pub offers_nothing : AskerState → HatState → Bool
offers_nothing a h = is_silent (strategy_at h) && same_region a.opened.region h.region

-- the node from which a region's ways begin: in the asker's own region that of its request, in another the gateway's
abbrev pub node_for : AskerState → HatState → Option ℕ
node_for a h = if same_region a.opened.region h.region then a.context else Some 0

-- what a region offers to the asker; what it would offer to another, where it offers nothing
abbrev pub candidates : AskerState → List ℕ → HatState → List QueryTargetQabl
candidates a key h = if offers_nothing a h then offers_of h region.Local key None else offers_to a key h

-- what decides of the offers of a region, before it is known whether one is complete
abbrev pub panel_at : Panel → AskerState → HatState → Panel
panel_at p a h = record p { beside = offers_nothing a h }

-- an offer that reaches the target is complete
abbrev pub has_best : Panel → AskerState → List QueryTargetQabl → Bool
has_best p a os = list_any (is_best p a) os

-- an offer on which the choice falls is complete: one of the region, or, where the choice is over all regions, one of any
abbrev pub is_complete_in : Panel → AskerState → HatState → List QueryTargetQabl → Bool
is_complete_in p a h os = if p.overall then is_some p.nearest else has_best (panel_at p a h) a os

-- the nearest complete offer of all regions is another region's
abbrev pub is_elsewhere : Panel → HatState → Bool
is_elsewhere p h = option_map_or (λ r. not (same_region r h.region)) p.nearest false

-- what decides of the offers of a region
abbrev pub panel_of : Panel → AskerState → HatState → List QueryTargetQabl → Panel
panel_of p a h os = record (panel_at p a h) { complete = is_complete_in p a h os; elsewhere = is_elsewhere p h }

-- the offers of a region that reach the target
abbrev pub reaching : Panel → AskerState → List ℕ → HatState → List QueryTargetQabl
reaching p a key h = filter (λ o. is_none (barrier (panel_at p a h) a o)) (candidates a key h)

-- the nearest complete offer of all regions, where the choice is over all regions
abbrev pub nearest_in : List (ℕ × HatState) → Panel → AskerState → List ℕ → Option QueryTargetQabl
nearest_in hats p a key = if p.overall then nearest (filter is_complete (flat_map (reaching p a key) (values_of hats))) else None

-- what was not asked, with that of a region
abbrev pub with_hat : Owned → Panel → AskerState → List ℕ → List Missed → HatState → List Missed
with_hat owned p a key missed h = (fold (judged owned (panel_of p a h (candidates a key h)) a) (first_verdict missed) (candidates a key h)).missed

-- the hat of a region, where it has the face
abbrev pub home : List (ℕ × HatState) → Region → ℕ → Option HatState
home hats r face = option_and_then (λ (h : HatState). if has_face_of face h then Some h else None) (hat_at r hats)

-- the router that a node number of the face stands for, and its place
abbrev pub origin : List (ℕ × HatState) → Region → ℕ → ℕ → Option Zid × Option ℕ
origin hats r face node = (option_and_then (source_at face node) (home hats r face), option_and_then (context_at face node) (home hats r face))

-- who asks, as it was opened
abbrev pub asker_by : List (ℕ × HatState) → Zid → SeenState → FaceId → ℕ → OpenFace → AskerState
asker_by hats own seen face node o =
    record {
      faces = seen.faces;
      tables = seen.lists;
      own = own;
      face = face;
      opened = o;
      source = (origin hats o.region face.0 node).0;
      context = (origin hats o.region face.0 node).1;
    }

-- the asker of a request, if the face is open
abbrev pub asker_for : List (ℕ × HatState) → Zid → SeenState → FaceId → ℕ → Option AskerState
asker_for hats own seen face node = option_map (asker_by hats own seen face node) (at face.0 seen.faces)

-- the choice is over all regions, and the target makes one
abbrev pub is_overall : Best → QueryTarget → Bool
is_overall best.Overall target.BestMatching = true
is_overall best.Overall target.All = false
is_overall best.Overall target.AllComplete = false
is_overall best.ByRegion t = false

-- what decides of a request on a key before a region is looked at
abbrev pub first_panel : SeenState → Best → FaceId → QueryTarget → List ℕ → Panel
first_panel seen b face t key =
    record {
      denied = is_key key && is_denied (denied_by (gate_at face.0 seen.gates)) key;
      beside = false;
      target = t;
      complete = false;
      overall = is_overall b t;
      nearest = None;
      elsewhere = false;
    }

-- the region of an offer
abbrev pub region_of : QueryTargetQabl → Region
region_of o = o.region

-- what decides, where the nearest complete offer of all regions is looked for first
abbrev pub with_nearest : Option QueryTargetQabl → Panel → Panel
with_nearest o p = record p { nearest = option_map region_of o }

-- what came of a request on a key: the nearest complete offer of all regions, where the choice is over all regions, and what was not asked
abbrev pub judged_on : List (ℕ × HatState) → SeenState → AskerState → Panel → List ℕ → Option QueryTargetQabl → Judgement
judged_on hats seen a p key o = record { nearest = o; missed = fold (with_hat seen.owned (with_nearest o p) a key) [] (values_of hats) }

-- where nothing is asked
abbrev pub no_judgement : Judgement
no_judgement = record { nearest = None; missed = [] }

-- what came of a request on what an expression says
unfoldable pub judged_said : List (ℕ × HatState) → SeenState → Best → AskerState → QueryTarget → Resolved → Judgement
judged_said hats seen b a t said =
    if says_key said then judged_on hats seen a (first_panel seen b a.face t (full_text said)) (full_text said) (nearest_in hats (first_panel seen b a.face t (full_text said)) a (full_text said))
    else no_judgement

-- what came of a request: what it chose over all regions, and what it was not asked of, of all that was declared on keys that meet its own
abbrev pub judged_for : List (ℕ × HatState) → Settings → SeenState → FaceId → Request → Judgement
judged_for hats config seen face r =
    option_map_or (λ (a : AskerState). judged_said hats seen config.best a r.target (said_in seen.names seen.gates face r.wire)) (asker_for hats config.zid seen face r.node) no_judgement
