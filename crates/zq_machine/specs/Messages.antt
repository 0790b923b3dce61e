-- What a call decides to hand, over texts: its outcome, its messages, and what faces are told.
use Rattle.std.specs.Prelude.{ℕ, ◌==◌, List, [], ◌∷◌, ◌++◌, map, Option, Some, None, if◌then◌else◌}
use Rattle.zq_message.specs.declared.message.FaceId.{FaceId}
use Rattle.zq_message.specs.declared.message.QueryTarget.{QueryTarget}
use Rattle.zq_message.specs.declared.message.QueryableInfoType.{QueryableInfoType}
use Rattle.zq_message.specs.declared.message.ReplyBody.{ReplyBody}
use Rattle.zq_message.specs.declared.message.Zid.{Zid}
use Rattle.zq_strategy.specs.declared.types.Telling as hat
use Rattle.zq_query.specs.declared.records.Final.{Final}
use Rattle.zq_machine.specs.declared.call.Outcome.{Outcome}

-- a request on a text to a target, under the id that it has there
pub record TextRequest : Type 0 where
  pub to : FaceId
  pub number : ℕ
  pub id : ℕ
  pub text : List ℕ
  pub target : QueryTarget
  pub timeout : Option ℕ
  pub node : ℕ
  pub qos : ℕ
  pub payload : List ℕ

-- a reply on a text to an asker, under the asker's id; its own number is in flight
pub record TextReply : Type 0 where
  pub to : FaceId
  pub number : ℕ
  pub reply : ℕ
  pub id : ℕ
  pub text : List ℕ
  pub qos : ℕ
  pub payload : ReplyBody
  pub responder : Option Zid

-- a message of a request; a final is what ends it for its asker
pub data TextMessage : Type 0 where
  text_request : TextRequest → TextMessage
  text_reply : TextReply → TextMessage
  text_final : Final → TextMessage

-- what a face is told: of a key, under an id and with its information; that an id ended, with its key where it is told by that; that all which an interest asked for was told
pub data TellingBody : Type 0 where
  key_told : ℕ → List ℕ → QueryableInfoType → TellingBody
  key_ended : ℕ → Option (List ℕ) → TellingBody
  all_told : TellingBody

-- what a face is told, in answer to an interest if one asked for it, and as a node of a tree
pub record Telling : Type 0 where
  pub to : FaceId
  pub interest : Option ℕ
  pub node : ℕ
  pub body : TellingBody

-- the id 0, which along trees all keys have, ends with its key, and any other by itself
abbrev pub ending_key : ℕ → List ℕ → Option (List ℕ)
ending_key id key = if id == 0 then Some key else None

-- a hat tells of a key: that an id has it with this information, or that the id ended
abbrev pub told_or_ended : ℕ → List ℕ → Option QueryableInfoType → TellingBody
told_or_ended id key None = key_ended id (ending_key id key)
told_or_ended id key (Some info) = key_told id key info

-- what a hat tells a face, in answer to no interest
abbrev pub from_hat : hat.Telling → Telling
from_hat t = record { to = t.face; interest = None; node = t.node; body = told_or_ended t.id t.key t.info }

-- it is told in answer to the interest of that id
abbrev pub answering : ℕ → Telling → Telling
answering id t = record t { interest = Some id }

-- an interest of the face is answered by these, and then that all was told
abbrev pub answered_by : FaceId → ℕ → List Telling → List Telling
answered_by face id ts = map (answering id) ts ++ record { to = face; interest = Some id; node = 0; body = all_told } ∷ []

-- what a call decides: its outcome, the messages of requests, and what faces are told
pub record Decided : Type 0 where
  pub outcome : Outcome
  pub messages : List TextMessage
  pub told : List Telling
