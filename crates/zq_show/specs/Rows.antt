-- The rows of a picture: one for a call, and one for each message that it hands.
use Rattle.std.specs.Prelude.{ℕ, ◌+◌, ◌-◌, ◌^◌, Bool, true, false, List, [], ◌∷◌, ◌++◌, Option, Some, None, codes, if◌then◌else◌, map, min, is_none}
use Rattle.std.specs.List.{flat_map}
use Rattle.std.specs.Option.{unwrap_or}
use Rattle.zq_message.specs.declared.message.Message.{Message}
use Rattle.zq_message.specs.declared.message.Message.TheVariants as message
use Rattle.zq_machine.specs.declared.call.Call.{Call}
use Rattle.zq_machine.specs.declared.call.Call.TheVariants as call
use Rattle.zq_machine.specs.declared.call.Outcome.{Outcome}
use Rattle.zq_machine.specs.declared.call.Outcome.TheVariants as outcome
use Rattle.zq_machine.specs.declared.call.Step.{Step}
use Rattle.zq_machine.specs.Handing.{Handed}
use Rattle.zq_show.specs.declared.row.Event.{Event}
use Rattle.zq_show.specs.declared.row.Event.TheVariants as event
use Rattle.zq_show.specs.declared.row.Kind.{Kind}
use Rattle.zq_show.specs.declared.row.Kind.TheVariants as kind
use Rattle.zq_show.specs.declared.row.Row.{Row}
use Rattle.zq_show.specs.declared.entry.Entry.{Entry}
use Rattle.zq_show.specs.Answer.{is_refused, number_tag}
use Rattle.zq_show.specs.Labels.{call_label as read_call, message_label}

-- the stroke of a call
abbrev pub call_kind : Call → Kind
call_kind (call.Request face request now) = kind.Request
call_kind (call.Response face response) = kind.Reply
call_kind (call.ResponseFinal face rid) = kind.Final
call_kind (call.Poll now) = kind.Time
call_kind (call.Sent reply) = kind.Note
call_kind (call.SetGateways region table) = kind.Note
call_kind (call.SetNetwork region net) = kind.Note
call_kind _ = kind.Declaration

-- the face that an answer opened
abbrev pub opened : Outcome → Option ℕ
opened (outcome.Opened face) = Some face.0
opened _ = None

-- the face that makes a call; of an opening the one that it opened
abbrev pub call_face : Outcome → Call → Option ℕ
call_face o (call.Open opening) = opened o
call_face o (call.Close face) = Some face.0
call_face o (call.DeclareKeyExpr face id wire) = Some face.0
call_face o (call.UndeclareKeyExpr face id) = Some face.0
call_face o (call.DeclareQueryable face id wire info node) = Some face.0
call_face o (call.UndeclareQueryable face id wire node) = Some face.0
call_face o (call.Interest face id keys aggregate wire) = Some face.0
call_face o (call.InterestFinal face id) = Some face.0
call_face o (call.FinalizeInterest face mark set) = Some face.0
call_face o (call.Request face request now) = Some face.0
call_face o (call.Response face response) = Some face.0
call_face o (call.ResponseFinal face rid) = Some face.0
call_face o (call.Sent reply) = None
call_face o (call.Poll now) = None
call_face o (call.SetGateways region table) = None
call_face o (call.SetNetwork region net) = None
call_face o (call.SetNodeIds face ids) = Some face.0

-- what ends with a call
abbrev pub ending : Call → Event
ending (call.ResponseFinal face rid) = event.Finished face.0 rid
ending (call.Close face) = event.Closed face.0
ending (call.Sent reply) = event.Sent reply
ending (call.Poll now) = event.Moment now
ending _ = event.Nothing

-- what ends with a call that is not refused
abbrev pub call_event : Bool → Call → Event
call_event refused c = if refused then event.Nothing else ending c

-- the number of the request of the first message
abbrev pub first_number : List Handed → Option ℕ
first_number [] = None
first_number (h ∷ handed) = h.number

-- the request that an answer numbered, or that of the first message
abbrev pub request_by : Outcome → List Handed → Option ℕ
request_by (outcome.Asked n) handed = Some n
request_by _ handed = first_number handed

-- the request that a step is of
abbrev pub request_of : Step → Option ℕ
request_of t = request_by t.outcome t.handed

-- the number of the request that an answer numbered
abbrev pub asked_tag : Outcome → List ℕ
asked_tag (outcome.Asked n) = number_tag (Some n)
asked_tag _ = []

-- what stands beside the arrow of a call: what a person reads of it, behind the number of the request that it made
abbrev pub call_label : Option (List ℕ) → Call → Outcome → List ℕ
call_label key c o = asked_tag o ++ read_call key c

-- the row of a call
abbrev pub call_row : Entry → Row
call_row entry =
    record {
      line = entry.number;
      kind = call_kind entry.call;
      face = call_face entry.step.outcome entry.call;
      handed = false;
      refused = is_refused entry.step.outcome;
      stopped = false;
      event = call_event (is_refused entry.step.outcome) entry.call;
      request = request_of entry.step;
      label = call_label entry.key entry.call entry.step.outcome;
    }

-- the stroke of a message
abbrev pub kind_of : Message → Kind
kind_of (message.Request r) = kind.Request
kind_of (message.Response r) = kind.Reply
kind_of (message.ResponseFinal f) = kind.Final
kind_of _ = kind.Declaration

-- the moment up to which the requests that a call hands are pending; a request that gives no timeout has this one
abbrev pub until : ℕ → Call → ℕ
until timeout (call.Request face request now) = min (now + unwrap_or request.timeout timeout) (2 ^ 64 - 1)
until timeout _ = 0

-- a request is pending from here on, if it leaves and has a number
abbrev pub pending_by : Option Message → Option ℕ → ℕ → ℕ → ℕ → Event
pending_by (Some m) (Some request) face id until = event.Pending face id request until
pending_by (Some m) None face id until = event.Nothing
pending_by None number face id until = event.Nothing

-- a request is pending at a face under an id from here on up to a moment, if it leaves and has a number
abbrev pub pending_from : Handed → ℕ → ℕ → Event
pending_from h id until = pending_by h.leaves h.number h.to.0 id until

-- a reply is in flight from here on, if it has a number
abbrev pub flight_from : Option ℕ → Event
flight_from None = event.Nothing
flight_from (Some reply) = event.InFlight reply

-- a request ends here, if it has a number
abbrev pub over_at : Option ℕ → Event
over_at None = event.Nothing
over_at (Some request) = event.Over request

-- what begins or ends with a message, where requests are pending up to a moment
abbrev pub event_by : Message → ℕ → Handed → Event
event_by (message.Request r) until h = pending_from h r.id until
event_by (message.Response r) until h = flight_from h.reply
event_by (message.ResponseFinal f) until h = over_at h.number
event_by _ until h = event.Nothing

-- what begins or ends with a message that is handed
abbrev pub handed_event : ℕ → Handed → Event
handed_event until h = event_by h.message until h

-- nothing leaves of what is handed
abbrev pub is_stopped : Handed → Bool
is_stopped h = is_none h.leaves

-- whether nothing leaves of a message
abbrev pub leaves_tag : Bool → List ℕ
leaves_tag stopped = if stopped then codes "stopped at the exit: " else []

-- what stands beside the arrow of a message: what a person reads of it, behind the number of its request
abbrev pub handed_label : Option (List ℕ) → Handed → List ℕ
handed_label key h = number_tag h.number ++ leaves_tag (is_stopped h) ++ message_label key h.message

-- the row of a message that a call handed, whose requests are pending up to a moment
abbrev pub handed_row : Entry → ℕ → Handed → Row
handed_row entry until h =
    record {
      line = entry.number;
      kind = kind_of h.message;
      face = Some h.to.0;
      handed = true;
      refused = false;
      stopped = is_stopped h;
      event = handed_event until h;
      request = h.number;
      label = handed_label entry.key h;
    }

-- the rows of messages
abbrev pub handed_rows : Entry → ℕ → List Handed → List Row
handed_rows entry until handed = map (handed_row entry until) handed

-- the rows of a call: its own, and one for each message that it handed, in order
abbrev pub rows_of : ℕ → Entry → List Row
rows_of timeout entry = call_row entry ∷ [] ++ handed_rows entry (until timeout entry.call) entry.step.handed

-- the rows of calls, in order; a request that gives no timeout has this one
abbrev pub all_rows : ℕ → List Entry → List Row
all_rows timeout entries = flat_map (rows_of timeout) entries
