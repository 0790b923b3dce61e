-- What the moments that have come make of the records.
use Rattle.std.specs.Prelude.{ℕ, zero, suc, ◌+◌, ◌^◌, nat_lt, Bool, not, List, [], ◌++◌, map, fold, length, Some, None, if◌then◌else◌}
use Rattle.std.specs.List.{filter, flat_map, list_any, cons_option}
use Rattle.std.specs.Option.{option_map, is_some}
use Rattle.std.specs.BTreeSet.{insert_key}
use Rattle.zq_query.specs.declared.records.Final.{Final}
use Rattle.zq_query.specs.declared.records.Timeout.{Timeout}
use Rattle.zq_query.specs.Records.{QueryState, Record, Pending, is_closed, request, letting_go, landing, is_entry, after_put, has_number}
use Rattle.zq_query.specs.Tables.{Due, due_cmp}

-- the deadline has come
abbrev pub is_due : ℕ → Pending → Bool
is_due now e = not (nat_lt now e.deadline)

-- deadline, number and face of the record's entries that are due
abbrev pub dues_of : ℕ → Record → List Due
dues_of now r = map (λ (e : Pending). (e.deadline, r.number, e.face)) (filter (is_due now) r.pending)

-- of all records', in order of deadline, number and face
abbrev pub dues_at : ℕ → List Record → List Due
dues_at now rs = fold (insert_key due_cmp) [] (flat_map (dues_of now) rs)

-- the timeout has a reply number
abbrev pub has_number_for : Timeout → Bool
has_number_for t = is_some t.reply

-- how many of them have a reply number
abbrev pub numbers_in : List Timeout → ℕ
numbers_in ts = length (filter has_number_for ts)

-- the timeout of the request's entry, with this reply number if its asker is open
abbrev pub timed_out : QueryState → ℕ → Due → Final → Timeout
timed_out s reply d f = record { number = f.number; asker = f.asker; id = f.id; qos = f.qos; target = record { 0 = d.2 }; reply = if is_closed s.closed f.asker.0 then None else Some reply }

-- one more timeout; its error reply has the next number, if the asker is open
abbrev pub with_timeout : QueryState → List Timeout → Due → List Timeout
with_timeout s ts d = ts ++ cons_option (option_map (timed_out s (s.replies + numbers_in ts) d) (request d.1 s.records)) []

-- a timeout for each of these, in their order
abbrev pub timeouts_of : QueryState → List Due → List Timeout
timeouts_of s ds = fold (with_timeout s) [] ds

-- a timeout for each entry that is due
abbrev pub timeouts : ℕ → QueryState → List Timeout
timeouts now s = timeouts_of s (dues_at now s.records)

-- fewer reply numbers are left than these need; 2^64 - 1 is never given
abbrev pub lacks_replies : List Timeout → QueryState → Bool
lacks_replies ts s = not (nat_lt (s.replies + numbers_in ts) (2 ^ 64))

-- the error reply of the timeout is in flight
abbrev pub after_timeout : QueryState → Timeout → QueryState
after_timeout s t = if is_some t.reply then after_put t.number s else s

-- the error replies of all of them are in flight
abbrev pub timing_out : List Timeout → QueryState → QueryState
timing_out ts s = fold after_timeout s ts

-- the error replies are in flight, and the entries that are due are released
abbrev pub after_poll : ℕ → QueryState → QueryState
after_poll now s =
    let z = timing_out (timeouts now s) s in
    record z { records = letting_go (is_due now) z.records }

-- the reply, or a later one, is in flight
abbrev pub has_reply_from : ℕ → List Record → Bool
has_reply_from reply rs = list_any (λ r. list_any (λ n. not (nat_lt n reply)) r.in_flight) rs

-- some timeout with a number is of no record
abbrev pub lacks_record : List Record → List Timeout → Bool
lacks_record rs ts = list_any (λ (t : Timeout). not (list_any (has_number t.number) rs)) ts

-- the replies of so many numbers, from the first on, are no longer in flight
unfoldable pub landing_from : ℕ → ℕ → List Record → List Record
landing_from first zero rs = rs
landing_from first (suc n) rs = landing first (landing_from (first + 1) n rs)

-- an entry is at one of the places
abbrev pub is_among : List (ℕ × ℕ) → Pending → Bool
is_among places e = list_any (λ p. is_entry p.0 p.1 e) places

-- an entry is at one of the places, and not due, or the other way round
abbrev pub is_amiss : List (ℕ × ℕ) → ℕ → Pending → Bool
is_amiss places now e = if is_among places e then not (is_due now e) else is_due now e
