-- A get: who answers what, its calls, its replies, and what is handed.
use Rattle.std.specs.Prelude.{ℕ, ◌+◌, ◌==◌, ◌^◌, ◌||◌, Bool, not, nat_lt, List, [], ◌∷◌, ◌++◌, Option, Some, None, if◌then◌else◌, length, map, position}
use Rattle.std.specs.List.{flat_map}
use Rattle.std.specs.Option.{option_map, option_to_list}
use Rattle.zq_message.specs.declared.message.FaceId.{FaceId}
use Rattle.zq_message.specs.declared.message.Message.{Message}
use Rattle.zq_message.specs.declared.message.Message.TheVariants as message
use Rattle.zq_message.specs.declared.message.QueryTarget.{QueryTarget}
use Rattle.zq_message.specs.declared.message.ReplyBody.TheVariants as body
use Rattle.zq_message.specs.declared.message.Request.{Request}
use Rattle.zq_message.specs.declared.message.Response.{Response}
use Rattle.zq_tables.specs.Naming.{plain}
use Rattle.zq_machine.specs.declared.call.Call.{Call}
use Rattle.zq_machine.specs.declared.call.Call.TheVariants as call
use Rattle.zq_machine.specs.declared.call.Step.{Step}
use Rattle.zq_machine.specs.Handing.{Handed}
use Rattle.zq_machine.specs.Machine.{state_after, step, steps_from}
use Rattle.zq_store.specs.Held.{meeting}
use Rattle.zq_store.specs.Stores.{Stored, count_all, held_at, is_face}
use Rattle.zq_store.specs.Bus.{BusState}
use Rattle.zq_store.specs.declared.bus.BusRefusal.{BusRefusal}
use Rattle.zq_store.specs.declared.bus.BusRefusal.TheVariants as refusal
use Rattle.zq_store.specs.declared.held.Pair.{Pair}
use Rattle.zq_store.specs.declared.got.Got.{Got}
use Rattle.zq_store.specs.declared.got.GotReply.{GotReply}
use Rattle.zq_store.specs.declared.answers.Answer.{Answer}
use Rattle.zq_store.specs.declared.answers.AskedStore.{AskedStore}

-- ---- who answers what

-- the storage with this number is asked at its face, under this id
abbrev pub asked_at : FaceId → ℕ → ℕ → AskedStore
asked_at face rid store = record { store = store; face = face; rid = rid }

-- the storage that a message to a face asks, if it is a request to a storage
abbrev pub asked_by : List Stored → FaceId → Message → List AskedStore
asked_by stores to (message.Request r) = option_to_list (option_map (asked_at to r.id) (position (is_face to) stores))
asked_by stores to (message.Response r) = []
asked_by stores to (message.ResponseFinal f) = []
asked_by stores to (message.Declare d) = []
asked_by stores to (message.Interest i) = []
asked_by stores to (message.InterestFinal i) = []

-- the storage that what is handed asks
abbrev pub asked_in : List Stored → Handed → List AskedStore
asked_in stores h = asked_by stores h.to h.message

-- the storages that are asked, in the order in which they are handed the request
abbrev pub asked_of : List Stored → List Handed → List AskedStore
asked_of stores hs = flat_map (asked_in stores) hs

-- a storage's answer by one of its pairs
abbrev pub answer_by : AskedStore → List ℕ × List ℕ → Answer
answer_by a p = record { asked = a; key = p.0; value = p.1 }

-- the same by a pair that it handed out
abbrev pub answer_of : AskedStore → Pair → Answer
answer_of a p = record { asked = a; key = p.key; value = p.value }

-- what a storage answers: its pairs that meet the key
abbrev pub answers_at : List Stored → List ℕ → AskedStore → List Answer
answers_at stores key a = map (answer_by a) (meeting key (held_at stores a.store))

-- what the storages answer, one after another
abbrev pub answers_of : List Stored → List ℕ → List AskedStore → List Answer
answers_of stores key asked = flat_map (answers_at stores key) asked

-- ---- the calls of a get

-- what the asker asks
abbrev pub request_on : List ℕ → QueryTarget → Request
request_on key target = record { id = 0; wire = plain key; target = target; timeout = None; node = 0; qos = 0; payload = [] }

-- the call that asks
abbrev pub ask_call : FaceId → List ℕ → QueryTarget → ℕ → Call
ask_call asker key target now = call.Request asker (request_on key target) now

-- what a storage replies
abbrev pub response_of : Answer → Response
response_of a = record { rid = a.asked.rid; wire = plain a.key; qos = 0; payload = body.Reply a.value; responder = None }

-- the call that replies
abbrev pub reply_call : Answer → Call
reply_call a = call.Response a.asked.face (response_of a)

-- the calls that reply each answer, and report it as sent by the numbers from this one on
abbrev pub reply_calls : ℕ → List Answer → List Call
reply_calls n [] = []
reply_calls n (a ∷ more) = reply_call a ∷ call.Sent n ∷ reply_calls (n + 1) more

-- the call by which a storage ends
abbrev pub end_call : AskedStore → Call
end_call a = call.ResponseFinal a.face a.rid

-- the storages that a get asks: those that its request is handed to
abbrev pub get_asks : BusState → List ℕ → QueryTarget → ℕ → List AskedStore
get_asks b key target now = asked_of b.stores (step b.gateway (ask_call b.asker key target now)).handed

-- the answers of a get
abbrev pub get_answers : BusState → List ℕ → QueryTarget → ℕ → List Answer
get_answers b key target now = answers_of b.stores key (get_asks b key target now)

-- the calls of a get: the request, each reply with the report that it was sent, and the ends of the storages
abbrev pub get_calls : BusState → List ℕ → QueryTarget → ℕ → List Call
get_calls b key target now = ask_call b.asker key target now ∷ reply_calls b.next_reply (get_answers b key target now) ++ map end_call (get_asks b key target now)

-- ---- what a get brings

-- what a step hands
abbrev pub handed_in : Step → List Handed
handed_in t = t.handed

-- all that steps hand
abbrev pub handed_over : List Step → List Handed
handed_over ts = flat_map handed_in ts

-- an answer as the asker gets it
abbrev pub got_reply : Answer → GotReply
got_reply a = record { store = record { 0 = a.asked.store }; key = a.key; value = a.value }

-- what a get brings: the answers as replies, and all that the gateway hands for its calls
abbrev pub got_of : BusState → List ℕ → QueryTarget → ℕ → Got
got_of b key target now = record {
  replies = map got_reply (get_answers b key target now);
  handed = handed_over (steps_from b.gateway (get_calls b key target now));
}

-- the bus after a get
abbrev pub after_get : BusState → List ℕ → QueryTarget → ℕ → BusState
after_get b key target now = record b {
  gateway = state_after b.gateway (get_calls b key target now);
  next_request = b.next_request + 1;
  next_reply = b.next_reply + length (get_answers b key target now);
}

-- ---- why nothing is asked

-- a number is left for the request
abbrev pub has_request : BusState → Bool
has_request b = not (b.next_request + 1 == 2 ^ 64)

-- as many numbers are left for replies as there are pairs that meet the key
abbrev pub has_replies : List ℕ → BusState → Bool
has_replies key b = nat_lt (b.next_reply + count_all key b.stores) (2 ^ 64)

-- why a get is refused
abbrev pub get_refusal : List ℕ → BusState → Option BusRefusal
get_refusal key b =
    if b.spent then Some refusal.Spent
    else (if not (has_request b) || not (has_replies key b) then Some refusal.NoFreeId else None)
