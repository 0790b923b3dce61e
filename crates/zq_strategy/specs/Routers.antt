-- What routers of a region declared, the network and node tables that are handed in, and what is offered by them.
use Rattle.std.specs.Prelude.{ℕ, Bool, List, [], find, Option, Some, if◌then◌else◌, option_map, slice_get}
use Rattle.std.specs.List.{flat_map}
use Rattle.std.specs.Option.{option_map_or, option_and_then}
use Rattle.zq_message.specs.declared.message.QueryableInfoType.{QueryableInfoType}
use Rattle.zq_message.specs.declared.message.Region.{Region}
use Rattle.zq_message.specs.declared.message.Zid.{Zid}
use Rattle.zq_strategy.specs.declared.network.Network.{Network}
use Rattle.zq_strategy.specs.declared.network.NodeIds.{NodeIds}
use Rattle.zq_strategy.specs.Entries.{Routed, entry_of, is_unlisted, keys_by, staying, with_entry, without_entry}
use Rattle.zq_strategy.specs.Nets.{◌>>=◌, is_listed, is_zid, place_of}
use Rattle.zq_strategy.specs.declared.offer.QueryTargetQabl.{QueryTargetQabl}
use Rattle.zq_strategy.specs.OfferOrder.{met_offers}
use Rattle.zq_strategy.specs.Routed.{routed_offers}
use Rattle.zq_strategy.specs.Kept.{change_face, face_at}
use Rattle.zq_strategy.specs.Regions.{in_routers, same_region, strategy_at}
use Rattle.zq_strategy.specs.State.{FaceState, HatState}

-- the id that a node number of the face stands for
abbrev pub zid_at : ℕ → FaceState → Option Zid
zid_at node f = slice_get f.nodes.ids node

-- the face has the id
abbrev pub has_zid : Zid → ℕ × FaceState → Bool
has_zid zid f = is_zid zid f.1.zid

-- the open face of least number with the id
abbrev pub face_with : Zid → List (ℕ × FaceState) → Option ℕ
face_with zid faces = option_map (λ (f : ℕ × FaceState). f.0) (find (has_zid zid) faces)

-- the face has this node table from now on
abbrev pub noded : ℕ → NodeIds → HatState → HatState
noded number ids s = change_face number (λ f. record f { nodes = ids }) s

-- the place of the node that a face's number stands for (`map_routing_context`)
abbrev pub context_at : ℕ → ℕ → HatState → Option ℕ
context_at number node s = in_routers (strategy_at s) (do
  f ← face_at number s
  zid ← zid_at node f
  place_of s.network zid) (Some 0)

-- the id of the node that a face's number stands for (`remote_node_id_to_zid`)
abbrev pub source_at : ℕ → ℕ → HatState → Option Zid
source_at number node s = option_and_then (λ (f : FaceState). in_routers (strategy_at s) (zid_at node f) (Some f.zid)) (face_at number s)

-- the router's entry on a key
abbrev pub entry_at : ℕ → List ℕ → HatState → Option QueryableInfoType
entry_at router key s = entry_of router key s.entries

-- the router's entry on the key is this one
abbrev pub announced : ℕ → List ℕ → QueryableInfoType → HatState → HatState
announced router key i s = record s { entries = with_entry router key i s.entries }

-- the router's entry on the key is gone
abbrev pub retracted : ℕ → List ℕ → HatState → HatState
retracted router key s = record s { entries = without_entry router key s.entries }

-- a network is put in place: entries of routers that it does not list go
abbrev pub networked : Network → HatState → HatState
networked net s = in_routers (strategy_at s) (record s { network = net; entries = staying (is_listed net) s.entries }) s

-- the keys that lose an entry by a network, in order
abbrev pub losing : Network → HatState → List (List ℕ)
losing net s = keys_by (is_unlisted net) s.entries

-- the offers for the entries on a key, if it meets the request's
abbrev pub entries_offers : HatState → List ℕ → ℕ → List ℕ × Routed → List QueryTargetQabl
entries_offers s q source k = met_offers (routed_offers s.network (λ zid. face_with zid s.faces) s.region source q) q k

-- the source of an asker: in this region the place that its node number stands for, else the gateway's own place
abbrev pub source_for : HatState → Region → Option ℕ → Option ℕ
source_for s src node = node >>= λ n. if same_region src s.region then Some n else place_of s.network s.own

-- what routers offer
abbrev pub router_offers : HatState → Region → List ℕ → Option ℕ → List QueryTargetQabl
router_offers s src q node = option_map_or (λ source. flat_map (entries_offers s q source) s.entries) (source_for s src node) []
