-- What a get is answered, said from the storages alone.
use Rattle.std.specs.Prelude.{◌≡◌, ℕ, ◌==◌, Bool, List, [], ◌∷◌, ◌++◌, None, filter, map}
use Rattle.std.specs.List.{flat_map}
use Rattle.zq_message.specs.declared.message.FaceId.{FaceId}
use Rattle.zq_message.specs.declared.message.Message.{Message}
use Rattle.zq_message.specs.declared.message.Message.TheVariants as message
use Rattle.zq_message.specs.declared.message.QueryTarget.{QueryTarget}
use Rattle.zq_message.specs.declared.message.ReplyBody.TheVariants as body
use Rattle.zq_tables.specs.Naming.{plain}
use Rattle.zq_machine.specs.Handing.{Handed}
use Rattle.zq_local.specs.Picking.{Seat, by_key, picked}
use Rattle.zq_store.specs.Held.{meeting}
use Rattle.zq_store.specs.Stores.{Stored, held_at}
use Rattle.zq_store.specs.Seats.{seats}
use Rattle.zq_store.specs.Bus.{BusState}
use Rattle.zq_store.specs.declared.got.Got.{Got}
use Rattle.zq_store.specs.declared.got.GotReply.{GotReply}

-- ---- the replies

-- a pair as the reply of the storage with this number
abbrev pub reply_by : ℕ → List ℕ × List ℕ → GotReply
reply_by n p = record { store = record { 0 = n }; key = p.0; value = p.1 }

-- what a storage replies: its pairs that meet the key, by key
abbrev pub replies_by : List ℕ → List Stored → Seat → List GotReply
replies_by key stores s = map (reply_by s.number) (meeting key (held_at stores s.number))

-- what the storages reply that a target picks, one after another
abbrev pub picked_replies : List ℕ → QueryTarget → List Stored → List GotReply
picked_replies key target stores = flat_map (replies_by key stores) (picked key target (seats stores))

-- all pairs that meet the key, over all storages: by storage key text, storage number and pair key
abbrev pub meeting_replies : List ℕ → List Stored → List GotReply
meeting_replies key stores = flat_map (replies_by key stores) (by_key (seats stores))

-- ---- what the asker is handed

-- the message is handed to the face
abbrev pub is_to : FaceId → Handed → Bool
is_to face h = h.to.0 == face.0

-- the message of what is handed
abbrev pub message_in : Handed → Message
message_in h = h.message

-- the messages that are handed to the face, in order
abbrev pub messages_to : FaceId → List Handed → List Message
messages_to face hs = map message_in (filter (is_to face) hs)

-- a reply as the asker is handed it
abbrev pub reply_message : GotReply → Message
reply_message r = message.Response (record { rid = 0; wire = plain r.key; qos = 0; payload = body.Reply r.value; responder = None })

-- the end of its request
abbrev pub final_message : Message
final_message = message.ResponseFinal (record { rid = 0; qos = 0 })

-- what a get brings: the replies of the storages that its target picks, and to the asker these in order, and then the one end of its request
pub record IsAnswered (key : List ℕ) (target : QueryTarget) (b : BusState) (g : Got) : Type 0 where
  pub replies : g.replies ≡ picked_replies key target b.stores
  pub to_asker : messages_to b.asker g.handed ≡ map reply_message g.replies ++ final_message ∷ []
