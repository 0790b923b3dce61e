-- The calls that a line can say: numbers within their fields, and texts that are UTF-8.
use Rattle.std.specs.Prelude.{ℕ, ◌≤◌, ◌<◌, List, length, ⊤}
use Rattle.std.specs.List.{AllByRecursion}
use Rattle.zq_message.specs.declared.message.FaceId.{FaceId}
use Rattle.zq_message.specs.declared.message.ReplyBody.{ReplyBody}
use Rattle.zq_message.specs.declared.message.ReplyBody.TheVariants as body
use Rattle.zq_strategy.specs.declared.types.FinalMark.{FinalMark}
use Rattle.zq_strategy.specs.declared.types.FinalMark.TheVariants as mark
use Rattle.zq_message.specs.declared.message.Request.{Request}
use Rattle.zq_message.specs.declared.message.Response.{Response}
use Rattle.zq_strategy.specs.declared.network.Network.{Network}
use Rattle.zq_route.specs.declared.gateways.Gateways.{Gateways}
use Rattle.zq_machine.specs.declared.call.Opening.{Opening}
use Rattle.zq_machine.specs.declared.call.Call.{Call}
use Rattle.zq_machine.specs.declared.call.Call.TheVariants as call
use Rattle.zq_io.specs.Fits.{IsBytes, IsText, FitsFace, FitsZid, FitsWire, FitsOption, FitsRegion}
use Rattle.zq_lines.specs.Tables.{FitsEntry, FitsTree}
use Rattle.zq_io.specs.Values.{most_8, most_16, most_32, most_64}

-- the empty namespace is written as none
pub record IsNamespace (name : List ℕ) : Type 0 where
  pub text : IsText name
  pub some : 0 < length name

-- an opening
pub record FitsOpening (o : Opening) : Type 0 where
  pub region : FitsRegion o.region
  pub zid : FitsZid o.zid
  pub namespace : FitsOption IsNamespace o.namespace
  pub entry_deny : AllByRecursion IsText o.entry_deny
  pub exit_deny : AllByRecursion IsText o.exit_deny

-- a mark
abbrev pub FitsMark : FinalMark → Type 0
FitsMark mark.Initial = ⊤
FitsMark (mark.Key text) = IsText text

-- what a reply brings
abbrev pub FitsBody : ReplyBody → Type 0
FitsBody (body.Reply payload) = IsBytes payload
FitsBody (body.Err payload) = IsBytes payload

-- a request
pub record FitsRequest (r : Request) : Type 0 where
  pub id : r.id ≤ most_32
  pub wire : FitsWire r.wire
  pub timeout : FitsOption (λ n. n ≤ most_64) r.timeout
  pub node : r.node ≤ most_16
  pub qos : r.qos ≤ most_8
  pub payload : IsBytes r.payload

-- a reply, its quality byte at most this
pub record FitsResponse (most : ℕ) (r : Response) : Type 0 where
  pub rid : r.rid ≤ most_32
  pub wire : FitsWire r.wire
  pub qos : r.qos ≤ most
  pub payload : FitsBody r.payload
  pub responder : FitsOption FitsZid r.responder

-- the gateways of a region
pub record FitsGateways (table : Gateways) : Type 0 where
  pub of : AllByRecursion FitsEntry table.of
  pub all : FitsOption (AllByRecursion FitsZid) table.all

-- the routers of a region
pub record FitsNetwork (net : Network) : Type 0 where
  pub nodes : AllByRecursion FitsZid net.nodes
  pub trees : AllByRecursion FitsTree net.trees
  pub distances : AllByRecursion (λ n. n ≤ most_16) net.distances

-- a face and an id
pub record FitsIds (f : FaceId) (n most : ℕ) : Type 0 where
  pub face : FitsFace f
  pub id : n ≤ most

-- a call that a line can say; the line of a reply has no quality byte
abbrev pub FitsCall : Call → Type 0
FitsCall (call.Open o) = FitsOpening o
FitsCall (call.Close face) = FitsFace face
FitsCall (call.DeclareKeyExpr face id wire) = FitsIds face id most_16 × FitsWire wire
FitsCall (call.UndeclareKeyExpr face id) = FitsIds face id most_16
FitsCall (call.DeclareQueryable face id wire info node) = FitsIds face id most_32 × FitsWire wire × (info.distance ≤ most_16) × (node ≤ most_16)
FitsCall (call.UndeclareQueryable face id wire node) = FitsIds face id most_32 × FitsOption FitsWire wire × (node ≤ most_16)
FitsCall (call.Interest face id keys aggregate wire) = FitsIds face id most_32 × FitsOption FitsWire wire
FitsCall (call.InterestFinal face id) = FitsIds face id most_32
FitsCall (call.FinalizeInterest face what set) = FitsFace face × FitsMark what
FitsCall (call.Request face r now) = FitsFace face × FitsRequest r × (now ≤ most_64)
FitsCall (call.Response face r) = FitsFace face × FitsResponse 0 r
FitsCall (call.ResponseFinal face rid) = FitsIds face rid most_32
FitsCall (call.Sent reply) = reply ≤ most_64
FitsCall (call.Poll now) = now ≤ most_64
FitsCall (call.SetGateways region table) = FitsRegion region × FitsGateways table
FitsCall (call.SetNetwork region net) = FitsRegion region × FitsNetwork net
FitsCall (call.SetNodeIds face ids) = FitsFace face × AllByRecursion FitsZid ids.ids
