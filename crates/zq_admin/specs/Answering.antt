-- How the gateway's own face answers the requests that it is handed.
use Rattle.std.specs.Prelude.{ℕ, ◌==◌, ◌&&◌, List, [], ◌∷◌, ◌++◌, Bool, true, filter, fold, Option, Some, None, if◌then◌else◌, codes}
use Rattle.zq_message.specs.declared.message.FaceId.{FaceId}
use Rattle.zq_message.specs.declared.message.Message.{Message}
use Rattle.zq_message.specs.declared.message.Message.TheVariants as message
use Rattle.zq_message.specs.declared.message.ReplyBody.TheVariants as body
use Rattle.zq_message.specs.declared.message.Request.{Request}
use Rattle.zq_key.specs.Key.{is_key}
use Rattle.zq_key.specs.Space.{behind}
use Rattle.zq_io.specs.Values.{zid_word}
use Rattle.zq_tables.specs.Naming.{plain}
use Rattle.zq_machine.specs.declared.call.Call.{Call}
use Rattle.zq_machine.specs.declared.call.Call.TheVariants as call
use Rattle.zq_machine.specs.declared.call.Outcome.{Outcome}
use Rattle.zq_machine.specs.declared.call.Outcome.TheVariants as outcome
use Rattle.zq_machine.specs.declared.call.Step.{Step}
use Rattle.zq_machine.specs.Configs.{Settings}
use Rattle.zq_machine.specs.Deciding.{is_accepted}
use Rattle.zq_machine.specs.Handing.{Handed}
use Rattle.zq_machine.specs.Machine.{after, state_after, step}
use Rattle.zq_machine.specs.State.{State, opening_state}
use Rattle.zq_local.specs.Seated.{local_opening}
use Rattle.zq_admin.specs.Entries.{Entry, entries, is_met, sources_words}

-- ---- the own face

-- it is a client of Local
abbrev pub own_opening : Settings → Call
own_opening config = call.Open (local_opening config.zid)

-- the key that it declares: `@/ZID/**`
abbrev pub own_key : Settings → List ℕ
own_key config = behind (behind (codes "@") (zid_word config.zid)) (codes "**")

-- its declaration
abbrev pub own_declaration : FaceId → Settings → Call
own_declaration own config = call.DeclareQueryable own 1 (plain (own_key config)) (record { complete = true; distance = 0 }) 0

-- a gateway with its own face
unfoldable pub own_state : FaceId → Settings → State
own_state own config = state_after (opening_state config) (own_opening config ∷ own_declaration own config ∷ [])

-- ---- what it answers

-- the reply of an entry: under its key, with its line but for the key
abbrev pub reply_call : FaceId → ℕ → Entry → Call
reply_call own rid e = call.Response own (record { rid = rid; wire = plain e.0; qos = 0; payload = body.Reply (sources_words e.1); responder = None })

-- steps, the state after them, and whether no reply was refused
pub record Made : Type 0 where
  pub steps : List Step
  pub state : State
  pub going : Bool

-- these steps and this state, with no reply refused
abbrev pub going_on : List Step → State → Made
going_on steps s = record { steps = steps; state = s; going = true }

-- a call is made behind others
abbrev pub with_call : Made → Call → Made
with_call m c = record { steps = m.steps ++ step m.state c ∷ []; state = after m.state c; going = is_accepted (step m.state c).outcome }

-- a reply that has a number is reported as sent
abbrev pub with_sent : Made → Outcome → Made
with_sent m (outcome.Opened f) = m
with_sent m (outcome.Asked number) = m
with_sent m (outcome.Replied None) = m
with_sent m (outcome.Replied (Some number)) = record m { steps = m.steps ++ step m.state (call.Sent number) ∷ []; state = after m.state (call.Sent number) }
with_sent m outcome.Done = m
with_sent m (outcome.Refused r) = m

-- a call, and what it replies reported as sent
unfoldable pub with_reported : Made → Call → Made
with_reported m c = with_sent (with_call m c) (step m.state c).outcome

-- the reply of an entry, reported as sent
abbrev pub with_reply : FaceId → ℕ → Made → Entry → Made
with_reply own rid m e = with_reported m (reply_call own rid e)

-- the same, where no reply was refused before
abbrev pub with_next : FaceId → ℕ → Made → Entry → Made
with_next own rid m e = if m.going then with_reply own rid m e else m

-- the replies of entries, up to the first that is refused
abbrev pub with_replies : FaceId → ℕ → Made → List Entry → Made
with_replies own rid m es = fold (with_next own rid) m es

-- the final behind them
unfoldable pub with_final : FaceId → ℕ → Made → Made
with_final own rid m = with_call m (call.ResponseFinal own rid)

-- the replies of entries, and the final behind them
abbrev pub with_answer : FaceId → ℕ → Made → List Entry → Made
with_answer own rid m es = with_final own rid (with_replies own rid m es)

-- ---- a call, and what the own face answers to it

-- the message, if it is a request
abbrev pub request_of : Message → Option Request
request_of (message.Request r) = Some r
request_of (message.Response r) = None
request_of (message.ResponseFinal f) = None
request_of (message.Interest i) = None
request_of (message.InterestFinal i) = None
request_of (message.Declare d) = None

-- the request that the face is handed, if it is one
abbrev pub asked_by : FaceId → Handed → Option Request
asked_by own h = if h.to.0 == own.0 then request_of h.message else None

-- a request, or else what comes later
abbrev pub or_later : Option Request → Option Request → Option Request
or_later None later = later
or_later (Some r) later = Some r

-- the first request that the face is handed
abbrev pub first_asked : FaceId → List Handed → Option Request
first_asked own [] = None
first_asked own (h ∷ hs) = or_later (asked_by own h) (first_asked own hs)

-- those of these entries that the request asks for: none by a number
abbrev pub asked_among : Request → List Entry → List Entry
asked_among r es = if (r.wire.scope == 0) && is_key r.wire.suffix then filter (is_met r.wire.suffix) es else []

-- the same, if there is a request
abbrev pub due_among : Option Request → List Entry → List Entry
due_among None es = []
due_among (Some r) es = asked_among r es

-- the entries that are asked for
abbrev pub entries_asked : Request → State → List Entry
entries_asked r s = asked_among r (entries s)

-- the entries that are asked for, if any are
abbrev pub entries_due : Option Request → State → List Entry
entries_due o s = due_among o (entries s)

-- what the own face answers to a request, if there is one, by these entries
abbrev pub answered : FaceId → Option Request → Made → List Entry → Made
answered own None m es = m
answered own (Some r) m es = with_answer own r.id m es

-- the step of a call alone
unfoldable pub first_made : Call → State → Made
first_made c s = going_on (step s c ∷ []) (after s c)

-- the request that the call hands the own face
unfoldable pub asked_own : FaceId → Call → State → Option Request
asked_own own c s = first_asked own (step s c).handed

-- the entries that the call's request asks for, after the call
abbrev pub due : FaceId → Call → State → List Entry
due own c s = entries_due (asked_own own c s) (first_made c s).state

-- a call, and what the own face answers to it by these entries
abbrev pub called : FaceId → Call → State → List Entry → Made
called own c s es = answered own (asked_own own c s) (first_made c s) es
