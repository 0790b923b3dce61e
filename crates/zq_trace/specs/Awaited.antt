-- What requests wait for at a point of a trace: faces that owe their finals, and replies in flight.
use Rattle.std.specs.Prelude.{ℕ, zero, suc, ◌+◌, ◌-◌, ◌^◌, ◌%◌, ◌==◌, min, Bool, not, ◌||◌, List, [], ◌∷◌, ◌++◌, find, fold, length, Option, Some, None, if◌then◌else◌, unwrap_or}
use Rattle.std.specs.List.{filter, filter_map, list_any}
use Rattle.std.specs.Option.{is_some, option_and_then, option_map}
use Rattle.zq_message.specs.declared.message.FaceId.{FaceId}
use Rattle.zq_message.specs.declared.message.Message.{Message}
use Rattle.zq_message.specs.declared.message.Message.TheVariants as message
use Rattle.zq_query.specs.declared.records.Final.{Final}
use Rattle.zq_query.specs.Records.{Pending, is_entry}
use Rattle.zq_machine.specs.declared.call.Call.{Call}
use Rattle.zq_machine.specs.declared.call.Call.TheVariants as call
use Rattle.zq_machine.specs.declared.call.Outcome.{Outcome}
use Rattle.zq_machine.specs.declared.call.Outcome.TheVariants as outcome
use Rattle.zq_machine.specs.Handing.{Handed}
use Rattle.zq_machine.specs.Configs.{Settings}
use Rattle.zq_machine.specs.Deciding.{is_accepted}
use Rattle.zq_machine.specs.Waiting.{ends_entry, lands}
use Rattle.zq_trace.specs.Faces.{Trace}

-- the request that a call asks, if it is accepted: its number, its asker, and the asker's id and quality byte
abbrev pub asked_by : Call → Outcome → List Final
asked_by (call.Request face r now) (outcome.Asked n) = record { number = n; asker = face; id = r.id; qos = r.qos } ∷ []
asked_by c answer = []

-- the accepted requests, the first one first
abbrev pub requests : Trace → List Final
requests [] = []
requests (x ∷ past) = requests past ++ asked_by x.0 x.1.outcome

-- the accepted request of a number
abbrev pub request : Trace → ℕ → Option Final
request past n = find (λ (f : Final). f.number == n) (requests past)

-- the moment up to which what a call hands is waited for
abbrev pub deadline : Settings → Call → ℕ
deadline config (call.Request face r now) = min (now + unwrap_or r.timeout config.timeout) (2 ^ 64 - 1)
deadline config c = 0

-- a face that owes its final, by the number of its request
abbrev pub Owed : Type 0
Owed = ℕ × Pending

-- what a request makes its face owe
abbrev pub owed_by : ℕ → ℕ → ℕ → Message → Option Owed
owed_by moment face n (message.Request r) = Some (n, record { face = face; id = r.id; deadline = moment })
owed_by moment face n m = None

-- the same of a message that is handed: nothing if it does not leave
abbrev pub owed : ℕ → Handed → Option Owed
owed moment h = if is_some h.leaves then option_and_then (λ n. owed_by moment h.to.0 n h.message) h.number else None

-- what is pending: requests that were handed and left, until the face's final, its closing, or the deadline
abbrev pub pending : Settings → Trace → List Owed
pending config [] = []
pending config (x ∷ past) = if is_accepted x.1.outcome then filter (λ (e : Owed). not (ends_entry x.0 e.1)) (pending config past) ++ filter_map (owed (deadline config x.0)) x.1.handed else pending config past

-- a reply that is handed, by the number of its request
abbrev pub flight : Handed → Option (ℕ × ℕ)
flight h = option_and_then (λ (n : ℕ). option_map (λ (k : ℕ). (n, k)) h.reply) h.number

-- what is in flight: replies that were handed, until one is reported as sent
abbrev pub in_flight : Trace → List (ℕ × ℕ)
in_flight [] = []
in_flight (x ∷ past) = if is_accepted x.1.outcome then filter (λ (f : ℕ × ℕ). not (lands x.0 f.1)) (in_flight past) ++ filter_map flight x.1.handed else in_flight past

-- the number of the next reply
abbrev pub next_reply : Settings → Trace → ℕ
next_reply config [] = config.start.replies
next_reply config (x ∷ past) = next_reply config past + length (filter_map (λ (h : Handed). h.reply) x.1.handed)

-- the request waits: some face owes its final, or some reply is in flight
abbrev pub waits : Settings → Trace → ℕ → Bool
waits config past n = list_any (λ (e : Owed). e.0 == n) (pending config past) || list_any (λ (f : ℕ × ℕ). f.0 == n) (in_flight past)

-- the accepted request to which a pending entry belongs
abbrev pub owner : Settings → Trace → ℕ → ℕ → Option Final
owner config past face id = option_and_then (λ (e : Owed). request past e.0) (find (λ (e : Owed). is_entry face id e.1) (pending config past))

-- ---- ids

-- the id of a request that is handed to the face, else the one before
abbrev pub given : ℕ → FaceId → ℕ → Message → ℕ
given face to id (message.Request r) = if to.0 == face then r.id else id
given face to id m = id

-- the id last given at a face
abbrev pub last_id : Settings → Trace → ℕ → ℕ
last_id config [] face = config.start.request_ids
last_id config (x ∷ past) face = fold (λ id (h : Handed). given face h.to id h.message) (last_id config past face) x.1.handed

-- the id is pending at the face
abbrev pub is_taken : List Owed → ℕ → ℕ → Bool
is_taken owed face id = list_any (λ (e : Owed). is_entry face id e.1) owed

-- the first id after the last, in the circle of 32 bits, that is not pending at the face
unfoldable pub free_after : List Owed → ℕ → ℕ → ℕ → Option ℕ
free_after owed face last zero = None
free_after owed face last (suc n) =
    let id = (last + 1) % 2 ^ 32 in
    if is_taken owed face id then free_after owed face id n else Some id

-- the id that a face is given next
abbrev pub free_id : Settings → Trace → ℕ → Option ℕ
free_id config past face = free_after (pending config past) face (last_id config past face) (2 ^ 32)
