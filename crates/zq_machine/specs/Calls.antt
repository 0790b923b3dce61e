-- Kinds of calls.
use Rattle.std.specs.Prelude.{ℕ, Bool, true, false, ◌&&◌, ◌==◌, if◌then◌else◌, List, [], ◌∷◌, Option, Some, None}
use Rattle.zq_message.specs.declared.message.Declare.{Declare}
use Rattle.zq_message.specs.declared.message.DeclareBody.{DeclareBody}
use Rattle.zq_message.specs.declared.message.DeclareBody.TheVariants as body
use Rattle.zq_message.specs.declared.message.FaceId.{FaceId}
use Rattle.zq_message.specs.declared.message.Message.{Message}
use Rattle.zq_message.specs.declared.message.Message.TheVariants as message
use Rattle.zq_strategy.specs.declared.types.FinalMark.TheVariants as mark
use Rattle.zq_machine.specs.declared.call.Opening.{Opening}
use Rattle.zq_machine.specs.declared.call.Call.{Call}
use Rattle.zq_machine.specs.declared.call.Call.TheVariants as call

-- the call reports a reply as sent
abbrev pub is_sent : Call → Bool
is_sent (call.Sent n) = true
is_sent c = false

-- the call declares a queryable
abbrev pub declares : Call → Bool
declares (call.DeclareQueryable face id wire info node) = true
declares c = false

-- no namespace is given
abbrev pub is_absent : Option (List ℕ) → Bool
is_absent None = true
is_absent (Some name) = false

-- the deny list is empty
abbrev pub has_none : List (List ℕ) → Bool
has_none [] = true
has_none (x ∷ xs) = false

-- without namespace and deny lists
abbrev pub is_plain_opening : Opening → Bool
is_plain_opening o = is_absent o.namespace && has_none o.entry_deny && has_none o.exit_deny

-- the call that the end of declarations makes, if it answers the interest 0
abbrev pub ending_call : FaceId → Option ℕ → Option Call
ending_call face None = None
ending_call face (Some interest) = if interest == 0 then Some (call.FinalizeInterest face mark.Initial true) else None

-- the call that a declaration with a body makes, if it makes one
abbrev pub declaring_call : FaceId → ℕ → Option ℕ → DeclareBody → Option Call
declaring_call face node interest (body.DeclareKeyExpr id wire) = Some (call.DeclareKeyExpr face id wire)
declaring_call face node interest (body.UndeclareKeyExpr id) = Some (call.UndeclareKeyExpr face id)
declaring_call face node interest (body.DeclareQueryable id wire info) = Some (call.DeclareQueryable face id wire info node)
declaring_call face node interest (body.UndeclareQueryable id wire) = Some (call.UndeclareQueryable face id wire node)
declaring_call face node interest body.DeclareFinal = ending_call face interest

-- the call that a face's declaration makes; the end of declarations makes one where they answer the interest 0, which every face has from its opening
abbrev pub declared_call : FaceId → Declare → Option Call
declared_call face d = declaring_call face d.node d.interest d.body

-- the call that a message of a face makes at a moment; the end of declarations makes one where it answers the interest 0
abbrev pub message_call : FaceId → Message → ℕ → Option Call
message_call face (message.Interest i) now = Some (call.Interest face i.id i.keys i.aggregate i.wire)
message_call face (message.InterestFinal id) now = Some (call.InterestFinal face id)
message_call face (message.Declare d) now = declared_call face d
message_call face (message.Request r) now = Some (call.Request face r now)
message_call face (message.Response r) now = Some (call.Response face r)
message_call face (message.ResponseFinal f) now = Some (call.ResponseFinal face f.rid)
