-- The tests of sameness decide equality.
use Rattle.std.proofs.Common.{◌≡◌, ℕ, Bool, true, false, List, [], Option, Some, None, refl, ap, ◌∙◌}
use Rattle.zq_message.specs.declared.message.Zid.{Zid}
use Rattle.zq_message.specs.declared.message.Mapping.{Mapping}
use Rattle.zq_message.specs.declared.message.Mapping.TheVariants as mapping
use Rattle.zq_message.specs.declared.message.WireExpr.{WireExpr}
use Rattle.zq_message.specs.declared.message.QueryTarget.{QueryTarget}
use Rattle.zq_message.specs.declared.message.QueryTarget.TheVariants as target
use Rattle.zq_message.specs.declared.message.QueryableInfoType.{QueryableInfoType}
use Rattle.zq_message.specs.declared.message.Request.{Request}
use Rattle.zq_message.specs.declared.message.ReplyBody.{ReplyBody}
use Rattle.zq_message.specs.declared.message.ReplyBody.TheVariants as reply
use Rattle.zq_message.specs.declared.message.Response.{Response}
use Rattle.zq_message.specs.declared.message.ResponseFinal.{ResponseFinal}
use Rattle.zq_message.specs.declared.message.Interest.{Interest}
use Rattle.zq_message.specs.declared.message.DeclareBody.{DeclareBody}
use Rattle.zq_message.specs.declared.message.DeclareBody.TheVariants as body
use Rattle.zq_message.specs.declared.message.Declare.{Declare}
use Rattle.zq_message.specs.declared.message.Message.{Message}
use Rattle.zq_message.specs.declared.message.Message.TheVariants as message
use Rattle.std.specs.Bool.{Decides}
use Rattle.std.specs.Option.{option_eq}
use Rattle.std.proofs.lemmas.Bool.Decides.{Decides-and, Decides-like, Decides-eqb}
use Rattle.std.proofs.lemmas.Slice.Eq.{bytes_eq-Decides}
use Rattle.zq_lines.specs.Steps.{leaving_words}
use Rattle.zq_lines.specs.Same.{same_number, same_flag, same_zid, same_mapping, same_target, same_reply, same_wire, same_info, same_request, same_response, same_final, same_interest, same_body, same_declare, same_message}

-- two that differ in kind
other : {X : Type 0} {a b : X} → (a ≡ b → ⊥) → Decides false (a ≡ b)
other h = (λ e. absurd (cc), λ e. absurd (h e))

number_same : (m n : ℕ) → Decides (same_number m n) (m ≡ n)
number_same m n = Decides-eqb m n

flag_same : (a b : Bool) → Decides (same_flag a b) (a ≡ b)
flag_same true true = (λ e. refl, λ e. refl)
flag_same true false = other (λ e. cc)
flag_same false true = other (λ e. cc)
flag_same false false = (λ e. refl, λ e. refl)

option_same : {X : Type 0} (same : X → X → Bool) → ((x y : X) → Decides (same x y) (x ≡ y)) → (a b : Option X) → Decides (option_eq same a b) (a ≡ b)
option_same same d None None = (λ e. refl, λ e. refl)
option_same same d None (Some y) = other (λ e. cc)
option_same same d (Some x) None = other (λ e. cc)
option_same same d (Some x) (Some y) = Decides-like _ (λ e. ap Some e) (λ e. cc) (d x y)

zid_from : (a b : Zid) → a.0 ≡ b.0 → a ≡ b
zid_from a b e = ap (λ (n : ℕ). record { 0 = n }) e

zid_same : (a b : Zid) → Decides (same_zid a b) (a ≡ b)
zid_same a b = Decides-like _ (λ e. zid_from a b e) (λ e. ap (λ (z : Zid). z.0) e) (Decides-eqb a.0 b.0)

mapping_same : (a b : Mapping) → Decides (same_mapping a b) (a ≡ b)
mapping_same mapping.Sender mapping.Sender = (λ e. refl, λ e. refl)
mapping_same mapping.Sender mapping.Receiver = other (λ e. cc)
mapping_same mapping.Receiver mapping.Sender = other (λ e. cc)
mapping_same mapping.Receiver mapping.Receiver = (λ e. refl, λ e. refl)

target_same : (a b : QueryTarget) → Decides (same_target a b) (a ≡ b)
target_same target.All target.All = (λ e. refl, λ e. refl)
target_same target.All target.AllComplete = other (λ e. cc)
target_same target.All target.BestMatching = other (λ e. cc)
target_same target.AllComplete target.All = other (λ e. cc)
target_same target.AllComplete target.AllComplete = (λ e. refl, λ e. refl)
target_same target.AllComplete target.BestMatching = other (λ e. cc)
target_same target.BestMatching target.All = other (λ e. cc)
target_same target.BestMatching target.AllComplete = other (λ e. cc)
target_same target.BestMatching target.BestMatching = (λ e. refl, λ e. refl)

reply_same : (a b : ReplyBody) → Decides (same_reply a b) (a ≡ b)
reply_same (reply.Reply p) (reply.Reply q) = Decides-like _ (λ e. ap reply.Reply e) (λ e. cc) (bytes_eq-Decides p q)
reply_same (reply.Reply p) (reply.Err q) = other (λ e. cc)
reply_same (reply.Err p) (reply.Reply q) = other (λ e. cc)
reply_same (reply.Err p) (reply.Err q) = Decides-like _ (λ e. ap reply.Err e) (λ e. cc) (bytes_eq-Decides p q)

wire_from : (a b : WireExpr) → a.scope ≡ b.scope → a.mapping ≡ b.mapping → a.suffix ≡ b.suffix → a ≡ b
wire_from a b e0 e1 e2 =
    ap (λ (x : ℕ). record { scope = x; mapping = a.mapping; suffix = a.suffix }) e0
    ∙ ap (λ (x : Mapping). record { scope = b.scope; mapping = x; suffix = a.suffix }) e1
    ∙ ap (λ (x : List ℕ). record { scope = b.scope; mapping = b.mapping; suffix = x }) e2

pub wire_same : (a b : WireExpr) → Decides (same_wire a b) (a ≡ b)
wire_same a b =
    Decides-like _ (λ h. wire_from a b (h.0.0) (h.0.1) (h.1))
    (λ e. ((ap (λ (x : WireExpr). x.scope) e, ap (λ (x : WireExpr). x.mapping) e), ap (λ (x : WireExpr). x.suffix) e))
    (Decides-and _ _ (Decides-and _ _ (Decides-eqb a.scope b.scope) (mapping_same a.mapping b.mapping)) (bytes_eq-Decides a.suffix b.suffix))

info_from : (a b : QueryableInfoType) → a.complete ≡ b.complete → a.distance ≡ b.distance → a ≡ b
info_from a b e0 e1 =
    ap (λ (x : Bool). record { complete = x; distance = a.distance }) e0
    ∙ ap (λ (x : ℕ). record { complete = b.complete; distance = x }) e1

pub info_same : (a b : QueryableInfoType) → Decides (same_info a b) (a ≡ b)
info_same a b =
    Decides-like _ (λ h. info_from a b (h.0) (h.1))
    (λ e. (ap (λ (x : QueryableInfoType). x.complete) e, ap (λ (x : QueryableInfoType). x.distance) e))
    (Decides-and _ _ (flag_same a.complete b.complete) (Decides-eqb a.distance b.distance))

request_from : (a b : Request) → a.id ≡ b.id → a.wire ≡ b.wire → a.target ≡ b.target → a.timeout ≡ b.timeout → a.node ≡ b.node → a.qos ≡ b.qos → a.payload ≡ b.payload → a ≡ b
request_from a b e0 e1 e2 e3 e4 e5 e6 =
    ap (λ (x : ℕ). record { id = x; wire = a.wire; target = a.target; timeout = a.timeout; node = a.node; qos = a.qos; payload = a.payload }) e0
    ∙ ap (λ (x : WireExpr). record { id = b.id; wire = x; target = a.target; timeout = a.timeout; node = a.node; qos = a.qos; payload = a.payload }) e1
    ∙ ap (λ (x : QueryTarget). record { id = b.id; wire = b.wire; target = x; timeout = a.timeout; node = a.node; qos = a.qos; payload = a.payload }) e2
    ∙ ap (λ (x : Option ℕ). record { id = b.id; wire = b.wire; target = b.target; timeout = x; node = a.node; qos = a.qos; payload = a.payload }) e3
    ∙ ap (λ (x : ℕ). record { id = b.id; wire = b.wire; target = b.target; timeout = b.timeout; node = x; qos = a.qos; payload = a.payload }) e4
    ∙ ap (λ (x : ℕ). record { id = b.id; wire = b.wire; target = b.target; timeout = b.timeout; node = b.node; qos = x; payload = a.payload }) e5
    ∙ ap (λ (x : List ℕ). record { id = b.id; wire = b.wire; target = b.target; timeout = b.timeout; node = b.node; qos = b.qos; payload = x }) e6

pub request_same : (a b : Request) → Decides (same_request a b) (a ≡ b)
request_same a b =
    Decides-like _ (λ h. request_from a b (h.0.0.0.0.0.0) (h.0.0.0.0.0.1) (h.0.0.0.0.1) (h.0.0.0.1) (h.0.0.1) (h.0.1) (h.1))
    (λ e. ((((((ap (λ (x : Request). x.id) e, ap (λ (x : Request). x.wire) e), ap (λ (x : Request). x.target) e), ap (λ (x : Request). x.timeout) e), ap (λ (x : Request). x.node) e), ap (λ (x : Request). x.qos) e), ap (λ (x : Request). x.payload) e))
    (Decides-and _ _ (Decides-and _ _ (Decides-and _ _ (Decides-and _ _ (Decides-and _ _ (Decides-and _ _ (Decides-eqb a.id b.id) (wire_same a.wire b.wire)) (target_same a.target b.target)) (option_same same_number number_same a.timeout b.timeout)) (Decides-eqb a.node b.node)) (Decides-eqb a.qos b.qos)) (bytes_eq-Decides a.payload b.payload))

response_from : (a b : Response) → a.rid ≡ b.rid → a.wire ≡ b.wire → a.qos ≡ b.qos → a.payload ≡ b.payload → a.responder ≡ b.responder → a ≡ b
response_from a b e0 e1 e2 e3 e4 =
    ap (λ (x : ℕ). record { rid = x; wire = a.wire; qos = a.qos; payload = a.payload; responder = a.responder }) e0
    ∙ ap (λ (x : WireExpr). record { rid = b.rid; wire = x; qos = a.qos; payload = a.payload; responder = a.responder }) e1
    ∙ ap (λ (x : ℕ). record { rid = b.rid; wire = b.wire; qos = x; payload = a.payload; responder = a.responder }) e2
    ∙ ap (λ (x : ReplyBody). record { rid = b.rid; wire = b.wire; qos = b.qos; payload = x; responder = a.responder }) e3
    ∙ ap (λ (x : Option Zid). record { rid = b.rid; wire = b.wire; qos = b.qos; payload = b.payload; responder = x }) e4

pub response_same : (a b : Response) → Decides (same_response a b) (a ≡ b)
response_same a b =
    Decides-like _ (λ h. response_from a b (h.0.0.0.0) (h.0.0.0.1) (h.0.0.1) (h.0.1) (h.1))
    (λ e. ((((ap (λ (x : Response). x.rid) e, ap (λ (x : Response). x.wire) e), ap (λ (x : Response). x.qos) e), ap (λ (x : Response). x.payload) e), ap (λ (x : Response). x.responder) e))
    (Decides-and _ _ (Decides-and _ _ (Decides-and _ _ (Decides-and _ _ (Decides-eqb a.rid b.rid) (wire_same a.wire b.wire)) (Decides-eqb a.qos b.qos)) (reply_same a.payload b.payload)) (option_same same_zid zid_same a.responder b.responder))

final_from : (a b : ResponseFinal) → a.rid ≡ b.rid → a.qos ≡ b.qos → a ≡ b
final_from a b e0 e1 =
    ap (λ (x : ℕ). record { rid = x; qos = a.qos }) e0
    ∙ ap (λ (x : ℕ). record { rid = b.rid; qos = x }) e1

pub final_same : (a b : ResponseFinal) → Decides (same_final a b) (a ≡ b)
final_same a b =
    Decides-like _ (λ h. final_from a b (h.0) (h.1))
    (λ e. (ap (λ (x : ResponseFinal). x.rid) e, ap (λ (x : ResponseFinal). x.qos) e))
    (Decides-and _ _ (Decides-eqb a.rid b.rid) (Decides-eqb a.qos b.qos))

interest_from : (a b : Interest) → a.id ≡ b.id → a.keys ≡ b.keys → a.aggregate ≡ b.aggregate → a.wire ≡ b.wire → a ≡ b
interest_from a b e0 e1 e2 e3 =
    ap (λ (x : ℕ). record { id = x; keys = a.keys; aggregate = a.aggregate; wire = a.wire }) e0
    ∙ ap (λ (x : Bool). record { id = b.id; keys = x; aggregate = a.aggregate; wire = a.wire }) e1
    ∙ ap (λ (x : Bool). record { id = b.id; keys = b.keys; aggregate = x; wire = a.wire }) e2
    ∙ ap (λ (x : Option WireExpr). record { id = b.id; keys = b.keys; aggregate = b.aggregate; wire = x }) e3

pub interest_same : (a b : Interest) → Decides (same_interest a b) (a ≡ b)
interest_same a b =
    Decides-like _ (λ h. interest_from a b (h.0.0.0) (h.0.0.1) (h.0.1) (h.1))
    (λ e. (((ap (λ (x : Interest). x.id) e, ap (λ (x : Interest). x.keys) e), ap (λ (x : Interest). x.aggregate) e), ap (λ (x : Interest). x.wire) e))
    (Decides-and _ _ (Decides-and _ _ (Decides-and _ _ (Decides-eqb a.id b.id) (flag_same a.keys b.keys)) (flag_same a.aggregate b.aggregate)) (option_same same_wire wire_same a.wire b.wire))

body_same : (a b : DeclareBody) → Decides (same_body a b) (a ≡ b)
body_same (body.DeclareKeyExpr id wire) (body.DeclareKeyExpr id2 wire2) = Decides-like _ (λ h. cc) (λ e. (cc, cc)) (Decides-and _ _ (Decides-eqb id id2) (wire_same wire wire2))
body_same (body.DeclareKeyExpr id wire) (body.UndeclareKeyExpr id2) = other (λ e. cc)
body_same (body.DeclareKeyExpr id wire) (body.DeclareQueryable id2 wire2 info2) = other (λ e. cc)
body_same (body.DeclareKeyExpr id wire) (body.UndeclareQueryable id2 wire2) = other (λ e. cc)
body_same (body.DeclareKeyExpr id wire) body.DeclareFinal = other (λ e. cc)
body_same (body.UndeclareKeyExpr id) (body.DeclareKeyExpr id2 wire2) = other (λ e. cc)
body_same (body.UndeclareKeyExpr id) (body.UndeclareKeyExpr id2) = Decides-like _ (λ h. cc) (λ e. cc) (Decides-eqb id id2)
body_same (body.UndeclareKeyExpr id) (body.DeclareQueryable id2 wire2 info2) = other (λ e. cc)
body_same (body.UndeclareKeyExpr id) (body.UndeclareQueryable id2 wire2) = other (λ e. cc)
body_same (body.UndeclareKeyExpr id) body.DeclareFinal = other (λ e. cc)
body_same (body.DeclareQueryable id wire info) (body.DeclareKeyExpr id2 wire2) = other (λ e. cc)
body_same (body.DeclareQueryable id wire info) (body.UndeclareKeyExpr id2) = other (λ e. cc)
body_same (body.DeclareQueryable id wire info) (body.DeclareQueryable id2 wire2 info2) = Decides-like _ (λ h. cc) (λ e. ((cc, cc), cc)) (Decides-and _ _ (Decides-and _ _ (Decides-eqb id id2) (wire_same wire wire2)) (info_same info info2))
body_same (body.DeclareQueryable id wire info) (body.UndeclareQueryable id2 wire2) = other (λ e. cc)
body_same (body.DeclareQueryable id wire info) body.DeclareFinal = other (λ e. cc)
body_same (body.UndeclareQueryable id wire) (body.DeclareKeyExpr id2 wire2) = other (λ e. cc)
body_same (body.UndeclareQueryable id wire) (body.UndeclareKeyExpr id2) = other (λ e. cc)
body_same (body.UndeclareQueryable id wire) (body.DeclareQueryable id2 wire2 info2) = other (λ e. cc)
body_same (body.UndeclareQueryable id wire) (body.UndeclareQueryable id2 wire2) = Decides-like _ (λ h. cc) (λ e. (cc, cc)) (Decides-and _ _ (Decides-eqb id id2) (option_same same_wire wire_same wire wire2))
body_same (body.UndeclareQueryable id wire) body.DeclareFinal = other (λ e. cc)
body_same body.DeclareFinal (body.DeclareKeyExpr id2 wire2) = other (λ e. cc)
body_same body.DeclareFinal (body.UndeclareKeyExpr id2) = other (λ e. cc)
body_same body.DeclareFinal (body.DeclareQueryable id2 wire2 info2) = other (λ e. cc)
body_same body.DeclareFinal (body.UndeclareQueryable id2 wire2) = other (λ e. cc)
body_same body.DeclareFinal body.DeclareFinal = (λ e. refl, λ e. refl)

declare_from : (a b : Declare) → a.interest ≡ b.interest → a.node ≡ b.node → a.body ≡ b.body → a ≡ b
declare_from a b e0 e1 e2 =
    ap (λ (x : Option ℕ). record { interest = x; node = a.node; body = a.body }) e0
    ∙ ap (λ (x : ℕ). record { interest = b.interest; node = x; body = a.body }) e1
    ∙ ap (λ (x : DeclareBody). record { interest = b.interest; node = b.node; body = x }) e2

pub declare_same : (a b : Declare) → Decides (same_declare a b) (a ≡ b)
declare_same a b =
    Decides-like _ (λ h. declare_from a b (h.0.0) (h.0.1) (h.1))
    (λ e. ((ap (λ (x : Declare). x.interest) e, ap (λ (x : Declare). x.node) e), ap (λ (x : Declare). x.body) e))
    (Decides-and _ _ (Decides-and _ _ (option_same same_number number_same a.interest b.interest) (Decides-eqb a.node b.node)) (body_same a.body b.body))

pub message_same : (a b : Message) → Decides (same_message a b) (a ≡ b)
message_same (message.Interest i) (message.Interest j) = Decides-like _ (λ e. ap message.Interest e) (λ e. cc) (interest_same i j)
message_same (message.Interest i) (message.InterestFinal j) = other (λ e. cc)
message_same (message.Interest i) (message.Declare j) = other (λ e. cc)
message_same (message.Interest i) (message.Request j) = other (λ e. cc)
message_same (message.Interest i) (message.Response j) = other (λ e. cc)
message_same (message.Interest i) (message.ResponseFinal j) = other (λ e. cc)
message_same (message.InterestFinal i) (message.Interest j) = other (λ e. cc)
message_same (message.InterestFinal i) (message.InterestFinal j) = Decides-like _ (λ e. ap message.InterestFinal e) (λ e. cc) (Decides-eqb i j)
message_same (message.InterestFinal i) (message.Declare j) = other (λ e. cc)
message_same (message.InterestFinal i) (message.Request j) = other (λ e. cc)
message_same (message.InterestFinal i) (message.Response j) = other (λ e. cc)
message_same (message.InterestFinal i) (message.ResponseFinal j) = other (λ e. cc)
message_same (message.Declare i) (message.Interest j) = other (λ e. cc)
message_same (message.Declare i) (message.InterestFinal j) = other (λ e. cc)
message_same (message.Declare i) (message.Declare j) = Decides-like _ (λ e. ap message.Declare e) (λ e. cc) (declare_same i j)
message_same (message.Declare i) (message.Request j) = other (λ e. cc)
message_same (message.Declare i) (message.Response j) = other (λ e. cc)
message_same (message.Declare i) (message.ResponseFinal j) = other (λ e. cc)
message_same (message.Request i) (message.Interest j) = other (λ e. cc)
message_same (message.Request i) (message.InterestFinal j) = other (λ e. cc)
message_same (message.Request i) (message.Declare j) = other (λ e. cc)
message_same (message.Request i) (message.Request j) = Decides-like _ (λ e. ap message.Request e) (λ e. cc) (request_same i j)
message_same (message.Request i) (message.Response j) = other (λ e. cc)
message_same (message.Request i) (message.ResponseFinal j) = other (λ e. cc)
message_same (message.Response i) (message.Interest j) = other (λ e. cc)
message_same (message.Response i) (message.InterestFinal j) = other (λ e. cc)
message_same (message.Response i) (message.Declare j) = other (λ e. cc)
message_same (message.Response i) (message.Request j) = other (λ e. cc)
message_same (message.Response i) (message.Response j) = Decides-like _ (λ e. ap message.Response e) (λ e. cc) (response_same i j)
message_same (message.Response i) (message.ResponseFinal j) = other (λ e. cc)
message_same (message.ResponseFinal i) (message.Interest j) = other (λ e. cc)
message_same (message.ResponseFinal i) (message.InterestFinal j) = other (λ e. cc)
message_same (message.ResponseFinal i) (message.Declare j) = other (λ e. cc)
message_same (message.ResponseFinal i) (message.Request j) = other (λ e. cc)
message_same (message.ResponseFinal i) (message.Response j) = other (λ e. cc)
message_same (message.ResponseFinal i) (message.ResponseFinal j) = Decides-like _ (λ e. ap message.ResponseFinal e) (λ e. cc) (final_same i j)

-- what leaves as it was handed says nothing more
pub says_nothing : (m : Message) → leaving_words m (Some m) ≡ []
says_nothing m = rw ((message_same m m).1 refl) refl
