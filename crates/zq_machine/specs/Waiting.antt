-- What requests wait for: each call takes out what it ends, and puts in what it hands.
use Rattle.std.specs.Prelude.{◌≡◌, ℕ, ◌==◌, Bool, false, not, ◌&&◌, ◌||◌, List}
use Rattle.std.specs.List.{list_any}
use Rattle.std.specs.Option.{is_some, option_map_or}
use Rattle.zq_message.specs.declared.message.Message.{Message}
use Rattle.zq_message.specs.declared.message.Message.TheVariants as message
use Rattle.zq_query.specs.Records.{Record, Pending, QueryState, is_entry, is_reply, flies}
use Rattle.zq_query.specs.Closing.{at_face}
use Rattle.zq_query.specs.Polling.{is_due}
use Rattle.zq_machine.specs.declared.call.Call.{Call}
use Rattle.zq_machine.specs.declared.call.Call.TheVariants as call
use Rattle.zq_machine.specs.Handing.{Handed}
use Rattle.zq_machine.specs.State.{State}
use Rattle.zq_machine.specs.Deciding.{deadline}

-- the same face, id and deadline
abbrev pub is_same : Pending → Pending → Bool
is_same e p = (p.face == e.face) && ((p.id == e.id) && (p.deadline == e.deadline))

-- the entry is pending for the request
abbrev pub waits : ℕ → Pending → Record → Bool
waits n e r = (r.number == n) && list_any (is_same e) r.pending

-- the entry is pending for the request of that number
abbrev pub owes : ℕ → Pending → List Record → Bool
owes n e rs = list_any (waits n e) rs

-- a call ends an entry by its target's final, by the closing of its target, or by its deadline
abbrev pub ends_entry : Call → Pending → Bool
ends_entry (call.ResponseFinal face rid) e = is_entry face.0 rid e
ends_entry (call.Close face) e = at_face face.0 e
ends_entry (call.Poll now) e = is_due now e
ends_entry c e = false

-- the call reports that the reply was sent
abbrev pub lands : Call → ℕ → Bool
lands (call.Sent reply) k = is_reply reply k
lands c k = false

-- the moment up to which the requests that a call hands wait
abbrev pub until : State → Call → ℕ
until s (call.Request face r now) = deadline s.core r.timeout now
until s c = 0

-- the message is of the request of that number
abbrev pub is_of : ℕ → Handed → Bool
is_of n h = option_map_or (λ m. m == n) h.number false

-- the message is a request to the entry's face under its id, which waits up to that moment
abbrev pub asks_entry : ℕ → ℕ → Pending → Message → Bool
asks_entry moment face e (message.Request r) = is_same e (record { face = face; id = r.id; deadline = moment })
asks_entry moment face e (message.Response r) = false
asks_entry moment face e (message.ResponseFinal f) = false
asks_entry moment face e (message.Interest i) = false
asks_entry moment face e (message.InterestFinal i) = false
asks_entry moment face e (message.Declare d) = false

-- the message is a request of that number, to the entry's face under its id, which waits up to the entry's deadline; one of which nothing leaves gives none
abbrev pub gives : ℕ → ℕ → Pending → Handed → Bool
gives moment n e h = is_of n h && (is_some h.leaves && asks_entry moment h.to.0 e h.message)

-- the message is the reply of that number, of that request
abbrev pub hands_reply : ℕ → ℕ → Handed → Bool
hands_reply n k h = is_of n h && option_map_or (is_reply k) h.reply false

-- the entries that are pending are those that were and that the call does not end, and one for each request that it hands and that leaves; the replies in flight are those that were and whose sending it does not report, and those that it hands
pub record Waits (ended : Pending → Bool) (landed : ℕ → Bool) (moment : ℕ) (before after : List Record) (handed : List Handed) : Type 0 where
  pub entries : (n : ℕ) (e : Pending) → owes n e after ≡ ((owes n e before && not (ended e)) || list_any (gives moment n e) handed)
  pub replies : (n k : ℕ) → flies n k after ≡ ((flies n k before && not (landed k)) || list_any (hands_reply n k) handed)

-- nothing of the request is pending, and no reply of it is in flight
abbrev pub IsSettled : ℕ → QueryState → Type 0
IsSettled n q = ((e : Pending) → owes n e q.records ≡ false) × ((k : ℕ) → flies n k q.records ≡ false)
