-- Calls with their expressions read: each is a text, nothing, or of no known number.
use Rattle.std.specs.Prelude.{ℕ, Bool, false, ◌&&◌, List, Option, Some, None, if◌then◌else◌}
use Rattle.std.specs.Option.{option_map, option_map_or}
use Rattle.zq_message.specs.declared.message.FaceId.{FaceId}
use Rattle.zq_message.specs.declared.message.QueryableInfoType.{QueryableInfoType}
use Rattle.zq_message.specs.declared.message.Region.{Region}
use Rattle.zq_message.specs.declared.message.Request.{Request}
use Rattle.zq_message.specs.declared.message.Response.{Response}
use Rattle.zq_message.specs.declared.message.WireExpr.{WireExpr}
use Rattle.zq_strategy.specs.declared.types.FinalMark.{FinalMark}
use Rattle.zq_strategy.specs.declared.network.Network.{Network}
use Rattle.zq_strategy.specs.declared.network.NodeIds.{NodeIds}
use Rattle.zq_tables.specs.declared.resolved.Resolved.{Resolved}
use Rattle.zq_tables.specs.declared.resolved.Resolved.TheVariants as said_word
use Rattle.zq_tables.specs.Naming.{said_of, text_at, face_naming}
use Rattle.zq_namespace.specs.Denied.{is_denied}
use Rattle.zq_route.specs.declared.gateways.Gateways.{Gateways}
use Rattle.zq_machine.specs.declared.call.Opening.{Opening}
use Rattle.zq_machine.specs.declared.call.Call.{Call}
use Rattle.zq_machine.specs.declared.call.Call.TheVariants as call
use Rattle.zq_machine.specs.Gates.{denied_by, entered_by, gate_at, reply_by, space_of}
use Rattle.zq_machine.specs.Selecting.{Manner, full_text, says_key}
use Rattle.zq_machine.specs.State.{Core, State, hat_of, is_routing}

-- a call with texts in place of expressions; a number that is declared or given up comes with the text that it stood for; what routers declare is named by its text and its node; an interest may have no expression
pub data TextCall : Type 0 where
  opening : Opening → TextCall
  closing : FaceId → TextCall
  naming : FaceId → ℕ → Resolved → Option (List ℕ) → TextCall
  unnaming : FaceId → ℕ → Option (List ℕ) → TextCall
  declaring : FaceId → ℕ → Resolved → QueryableInfoType → ℕ → TextCall
  withdrawing : FaceId → ℕ → TextCall
  asking : FaceId → Resolved → Request → ℕ → TextCall
  replying : FaceId → Resolved → Response → TextCall
  ending : FaceId → ℕ → TextCall
  reporting : ℕ → TextCall
  passing : ℕ → TextCall
  listing : Region → Gateways → TextCall
  finalizing : FaceId → FinalMark → Bool → TextCall
  announcing : FaceId → Resolved → QueryableInfoType → ℕ → TextCall
  retracting : FaceId → Resolved → ℕ → TextCall
  networking : Region → Network → TextCall
  tabling : FaceId → NodeIds → TextCall
  hearing : FaceId → ℕ → Manner → Option Resolved → TextCall
  unhearing : FaceId → ℕ → TextCall

-- what an expression says that the face sends, behind its namespace
abbrev pub said : FaceId → WireExpr → State → Resolved
said face w s = said_of (face_naming face.0 s.names) (entered_by (space_of (gate_at face.0 s.gates)) w)

-- what the expression of a reply says
abbrev pub said_by_reply : FaceId → Response → State → Resolved
said_by_reply face r s = said_of (face_naming face.0 s.names) (reply_by (space_of (gate_at face.0 s.gates)) r)

-- what is asked for: what is said, but nothing on a key that a denied one includes
abbrev pub allowed : List (List ℕ) → Resolved → Resolved
allowed denied s = if says_key s && is_denied denied (full_text s) then said_word.Empty else s

-- what a request of the face asks for
abbrev pub asked_said : FaceId → Request → State → Resolved
asked_said face r s = allowed (denied_by (gate_at face.0 s.gates)) (said face r.wire s)

-- what a number of the face stands for
abbrev pub standing : FaceId → ℕ → State → Option (List ℕ)
standing face id s = text_at id (face_naming face.0 s.names).theirs

-- what an expression says that may be missing
abbrev pub said_or_none : FaceId → Option WireExpr → State → Resolved
said_or_none face None s = said_word.Empty
said_or_none face (Some w) s = said face w s

-- what an expression says, if there is one
abbrev pub said_if : FaceId → Option WireExpr → State → Option Resolved
said_if face w s = option_map (λ (x : WireExpr). said face x s) w

-- the face's region is one of routers
abbrev pub by_router : FaceId → Core → Bool
by_router face c = option_map_or is_routing (hat_of face.0 c) false

-- the call with its expressions read, and by its face's region
abbrev pub read : State → Call → TextCall
read s (call.Open o) = opening o
read s (call.Close face) = closing face
read s (call.DeclareKeyExpr face id wire) = naming face id (said face wire s) (standing face id s)
read s (call.UndeclareKeyExpr face id) = unnaming face id (standing face id s)
read s (call.DeclareQueryable face id wire info node) = if by_router face s.core then announcing face (said face wire s) info node else declaring face id (said face wire s) info node
read s (call.UndeclareQueryable face id wire node) = if by_router face s.core then retracting face (said_or_none face wire s) node else withdrawing face id
read s (call.Request face r now) = asking face (asked_said face r s) r now
read s (call.Response face r) = replying face (said_by_reply face r s) r
read s (call.ResponseFinal face rid) = ending face rid
read s (call.Sent reply) = reporting reply
read s (call.Poll now) = passing now
read s (call.SetGateways r table) = listing r table
read s (call.FinalizeInterest face mark set) = finalizing face mark set
read s (call.Interest face id keys aggregate wire) = hearing face id (record { keys = keys; aggregate = aggregate }) (said_if face wire s)
read s (call.InterestFinal face id) = unhearing face id
read s (call.SetNetwork r net) = networking r net
read s (call.SetNodeIds face ids) = tabling face ids
