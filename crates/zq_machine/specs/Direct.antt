-- Numbers that are declared to faces: each stands directly before its first use, and none is used that was not declared.
use Rattle.std.specs.Prelude.{◌≡◌, ℕ, ◌==◌, Bool, true, false, List, [], ◌∷◌, Option, Some, None, if◌then◌else◌}
use Rattle.std.specs.Option.{is_some, option_and_then, option_map_or}
use Rattle.zq_message.specs.declared.message.DeclareBody.{DeclareBody}
use Rattle.zq_message.specs.declared.message.DeclareBody.TheVariants as body
use Rattle.zq_message.specs.declared.message.FaceId.{FaceId}
use Rattle.zq_message.specs.declared.message.Mapping.{Mapping}
use Rattle.zq_message.specs.declared.message.Mapping.TheVariants as mapping
use Rattle.zq_message.specs.declared.message.Message.{Message}
use Rattle.zq_message.specs.declared.message.Message.TheVariants as message
use Rattle.zq_message.specs.declared.message.WireExpr.{WireExpr}
use Rattle.zq_tables.specs.FaceTexts.{least_name}
use Rattle.zq_tables.specs.Naming.{NamingState, face_naming, plain, text_at}
use Rattle.zq_machine.specs.Handing.{Handed}
use Rattle.zq_machine.specs.Hearing.{heard_body}

-- the number, if it is one of the gateway's
abbrev pub by_gateway : Mapping → ℕ → Option ℕ
by_gateway mapping.Sender id = Some id
by_gateway mapping.Receiver id = None

-- the number of the gateway's that an expression uses, if it uses one
abbrev pub number_in : WireExpr → Option ℕ
number_in w = if w.scope == 0 then None else by_gateway w.mapping w.scope

-- the number of the gateway's by which a declaration tells of a key, if it does so by one
abbrev pub number_of : DeclareBody → Option ℕ
number_of (body.DeclareKeyExpr id w) = None
number_of (body.UndeclareKeyExpr id) = None
number_of (body.DeclareQueryable id w info) = number_in w
number_of (body.UndeclareQueryable id w) = option_and_then number_in w
number_of body.DeclareFinal = None

-- the number by which a message tells of a key, if it does; one of a request tells of none
abbrev pub number_by : Message → Option ℕ
number_by (message.Declare d) = number_of d.body
number_by (message.Request r) = None
number_by (message.Response r) = None
number_by (message.ResponseFinal f) = None
number_by (message.Interest i) = None
number_by (message.InterestFinal i) = None

-- the number was declared to the face
abbrev pub is_declared_to : FaceId → NamingState → ℕ → Bool
is_declared_to to names id = is_some (text_at id (face_naming to.0 names).ours)

-- the very next message goes to the face, and tells of a key by the number
abbrev pub IsUsedNext : FaceId → ℕ → List Handed → Type 0
IsUsedNext to id [] = ⊥
IsUsedNext to id (h ∷ hs) = (h.to ≡ to) × (number_by h.message ≡ Some id)

-- a number that is declared to a face was not declared to it before, nor was another for its text, which is given in full; and the very next message uses it
pub record IsDirect (to : FaceId) (id : ℕ) (w : WireExpr) (names : NamingState) (next : List Handed) : Type 0 where
  pub fresh : is_declared_to to names id ≡ false
  pub first : least_name w.suffix (face_naming to.0 names).ours ≡ None
  pub full : w ≡ plain w.suffix
  pub used : IsUsedNext to id next

-- a number that is declared stands directly before its first use, none is taken back, and any other declaration uses no number of the gateway's, or one that was declared to the face before
abbrev pub IsDirectBody : FaceId → DeclareBody → NamingState → List Handed → Type 0
IsDirectBody to (body.DeclareKeyExpr id w) names next = IsDirect to id w names next
IsDirectBody to (body.UndeclareKeyExpr id) names next = ⊥
IsDirectBody to b names next = option_map_or (is_declared_to to names) (number_of b) true ≡ true

-- a message declares each number directly before its first use, as its body does; those of requests declare none
abbrev pub IsDirectMessage : FaceId → Message → NamingState → List Handed → Type 0
IsDirectMessage to (message.Declare d) names next = IsDirectBody to d.body names next
IsDirectMessage to m names next = Unit {0}

-- what stands for keys once a message's receiver has it
abbrev pub heard_message : FaceId → Message → NamingState → NamingState
heard_message to (message.Declare d) names = heard_body to d.body names
heard_message to m names = names

-- of messages, one after another, each declared number stands directly before its first use, and none is used that was not declared
abbrev pub AreDirect : List Handed → NamingState → Type 0
AreDirect [] names = Unit {0}
AreDirect (h ∷ hs) names = IsDirectMessage h.to h.message names hs × AreDirect hs (heard_message h.to h.message names)
