-- Whether two messages are the same.
use Rattle.std.specs.Prelude.{ℕ, Bool, true, false, not, ◌&&◌, ◌==◌}
use Rattle.std.specs.Option.{option_eq}
use Rattle.std.specs.Str.{bytes_eq}
use Rattle.zq_message.specs.declared.message.Zid.{Zid}
use Rattle.zq_message.specs.declared.message.Mapping.{Mapping}
use Rattle.zq_message.specs.declared.message.Mapping.TheVariants as mapping
use Rattle.zq_message.specs.declared.message.WireExpr.{WireExpr}
use Rattle.zq_message.specs.declared.message.QueryTarget.{QueryTarget}
use Rattle.zq_message.specs.declared.message.QueryTarget.TheVariants as target
use Rattle.zq_message.specs.declared.message.QueryableInfoType.{QueryableInfoType}
use Rattle.zq_message.specs.declared.message.Request.{Request}
use Rattle.zq_message.specs.declared.message.ReplyBody.{ReplyBody}
use Rattle.zq_message.specs.declared.message.ReplyBody.TheVariants as reply
use Rattle.zq_message.specs.declared.message.Response.{Response}
use Rattle.zq_message.specs.declared.message.ResponseFinal.{ResponseFinal}
use Rattle.zq_message.specs.declared.message.Interest.{Interest}
use Rattle.zq_message.specs.declared.message.DeclareBody.{DeclareBody}
use Rattle.zq_message.specs.declared.message.DeclareBody.TheVariants as body
use Rattle.zq_message.specs.declared.message.Declare.{Declare}
use Rattle.zq_message.specs.declared.message.Message.{Message}
use Rattle.zq_message.specs.declared.message.Message.TheVariants as message

-- the numbers are equal
abbrev pub same_number : ℕ → ℕ → Bool
same_number m n = m == n

-- both are true, or both false
abbrev pub same_flag : Bool → Bool → Bool
same_flag true b = b
same_flag false b = not b

-- one id
abbrev pub same_zid : Zid → Zid → Bool
same_zid a b = a.0 == b.0

-- both are the sender's, or both the receiver's
abbrev pub same_mapping : Mapping → Mapping → Bool
same_mapping mapping.Sender mapping.Sender = true
same_mapping mapping.Sender mapping.Receiver = false
same_mapping mapping.Receiver mapping.Sender = false
same_mapping mapping.Receiver mapping.Receiver = true

-- the place of a target among the three
abbrev pub target_place : QueryTarget → ℕ
target_place target.All = 0
target_place target.AllComplete = 1
target_place target.BestMatching = 2

-- one target
abbrev pub same_target : QueryTarget → QueryTarget → Bool
same_target a b = target_place a == target_place b

-- the same bytes, of one kind
abbrev pub same_reply : ReplyBody → ReplyBody → Bool
same_reply (reply.Reply p) (reply.Reply q) = bytes_eq p q
same_reply (reply.Reply p) (reply.Err q) = false
same_reply (reply.Err p) (reply.Reply q) = false
same_reply (reply.Err p) (reply.Err q) = bytes_eq p q

-- each field is the same
abbrev pub same_wire : WireExpr → WireExpr → Bool
same_wire a b = a.scope == b.scope && same_mapping a.mapping b.mapping && bytes_eq a.suffix b.suffix

-- each field is the same
abbrev pub same_info : QueryableInfoType → QueryableInfoType → Bool
same_info a b = same_flag a.complete b.complete && a.distance == b.distance

-- each field is the same
abbrev pub same_request : Request → Request → Bool
same_request a b = a.id == b.id && same_wire a.wire b.wire && same_target a.target b.target && option_eq same_number a.timeout b.timeout && a.node == b.node && a.qos == b.qos && bytes_eq a.payload b.payload

-- each field is the same
abbrev pub same_response : Response → Response → Bool
same_response a b = a.rid == b.rid && same_wire a.wire b.wire && a.qos == b.qos && same_reply a.payload b.payload && option_eq same_zid a.responder b.responder

-- each field is the same
abbrev pub same_final : ResponseFinal → ResponseFinal → Bool
same_final a b = a.rid == b.rid && a.qos == b.qos

-- each field is the same
abbrev pub same_interest : Interest → Interest → Bool
same_interest a b = a.id == b.id && same_flag a.keys b.keys && same_flag a.aggregate b.aggregate && option_eq same_wire a.wire b.wire

-- the same declaration
abbrev pub same_body : DeclareBody → DeclareBody → Bool
same_body (body.DeclareKeyExpr id wire) (body.DeclareKeyExpr id2 wire2) = id == id2 && same_wire wire wire2
same_body (body.DeclareKeyExpr id wire) (body.UndeclareKeyExpr id2) = false
same_body (body.DeclareKeyExpr id wire) (body.DeclareQueryable id2 wire2 info2) = false
same_body (body.DeclareKeyExpr id wire) (body.UndeclareQueryable id2 wire2) = false
same_body (body.DeclareKeyExpr id wire) body.DeclareFinal = false
same_body (body.UndeclareKeyExpr id) (body.DeclareKeyExpr id2 wire2) = false
same_body (body.UndeclareKeyExpr id) (body.UndeclareKeyExpr id2) = id == id2
same_body (body.UndeclareKeyExpr id) (body.DeclareQueryable id2 wire2 info2) = false
same_body (body.UndeclareKeyExpr id) (body.UndeclareQueryable id2 wire2) = false
same_body (body.UndeclareKeyExpr id) body.DeclareFinal = false
same_body (body.DeclareQueryable id wire info) (body.DeclareKeyExpr id2 wire2) = false
same_body (body.DeclareQueryable id wire info) (body.UndeclareKeyExpr id2) = false
same_body (body.DeclareQueryable id wire info) (body.DeclareQueryable id2 wire2 info2) = id == id2 && same_wire wire wire2 && same_info info info2
same_body (body.DeclareQueryable id wire info) (body.UndeclareQueryable id2 wire2) = false
same_body (body.DeclareQueryable id wire info) body.DeclareFinal = false
same_body (body.UndeclareQueryable id wire) (body.DeclareKeyExpr id2 wire2) = false
same_body (body.UndeclareQueryable id wire) (body.UndeclareKeyExpr id2) = false
same_body (body.UndeclareQueryable id wire) (body.DeclareQueryable id2 wire2 info2) = false
same_body (body.UndeclareQueryable id wire) (body.UndeclareQueryable id2 wire2) = id == id2 && option_eq same_wire wire wire2
same_body (body.UndeclareQueryable id wire) body.DeclareFinal = false
same_body body.DeclareFinal (body.DeclareKeyExpr id2 wire2) = false
same_body body.DeclareFinal (body.UndeclareKeyExpr id2) = false
same_body body.DeclareFinal (body.DeclareQueryable id2 wire2 info2) = false
same_body body.DeclareFinal (body.UndeclareQueryable id2 wire2) = false
same_body body.DeclareFinal body.DeclareFinal = true

-- each field is the same
abbrev pub same_declare : Declare → Declare → Bool
same_declare a b = option_eq same_number a.interest b.interest && a.node == b.node && same_body a.body b.body

-- the same message
abbrev pub same_message : Message → Message → Bool
same_message (message.Interest i) (message.Interest j) = same_interest i j
same_message (message.Interest i) (message.InterestFinal j) = false
same_message (message.Interest i) (message.Declare j) = false
same_message (message.Interest i) (message.Request j) = false
same_message (message.Interest i) (message.Response j) = false
same_message (message.Interest i) (message.ResponseFinal j) = false
same_message (message.InterestFinal i) (message.Interest j) = false
same_message (message.InterestFinal i) (message.InterestFinal j) = i == j
same_message (message.InterestFinal i) (message.Declare j) = false
same_message (message.InterestFinal i) (message.Request j) = false
same_message (message.InterestFinal i) (message.Response j) = false
same_message (message.InterestFinal i) (message.ResponseFinal j) = false
same_message (message.Declare i) (message.Interest j) = false
same_message (message.Declare i) (message.InterestFinal j) = false
same_message (message.Declare i) (message.Declare j) = same_declare i j
same_message (message.Declare i) (message.Request j) = false
same_message (message.Declare i) (message.Response j) = false
same_message (message.Declare i) (message.ResponseFinal j) = false
same_message (message.Request i) (message.Interest j) = false
same_message (message.Request i) (message.InterestFinal j) = false
same_message (message.Request i) (message.Declare j) = false
same_message (message.Request i) (message.Request j) = same_request i j
same_message (message.Request i) (message.Response j) = false
same_message (message.Request i) (message.ResponseFinal j) = false
same_message (message.Response i) (message.Interest j) = false
same_message (message.Response i) (message.InterestFinal j) = false
same_message (message.Response i) (message.Declare j) = false
same_message (message.Response i) (message.Request j) = false
same_message (message.Response i) (message.Response j) = same_response i j
same_message (message.Response i) (message.ResponseFinal j) = false
same_message (message.ResponseFinal i) (message.Interest j) = false
same_message (message.ResponseFinal i) (message.InterestFinal j) = false
same_message (message.ResponseFinal i) (message.Declare j) = false
same_message (message.ResponseFinal i) (message.Request j) = false
same_message (message.ResponseFinal i) (message.Response j) = false
same_message (message.ResponseFinal i) (message.ResponseFinal j) = same_final i j
