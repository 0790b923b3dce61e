-- The rows of a picture, and which of them ends what another began.
use Rattle.std.specs.Prelude.{ℕ, ◌==◌, ◌&&◌, Bool, true, false, Option, Some, None, nat_le}
use Rattle.zq_show.specs.declared.row.Event.{Event}
use Rattle.zq_show.specs.declared.row.Event.TheVariants as event
use Rattle.zq_show.specs.declared.row.Row.{Row}

-- something lasts from there on
abbrev pub is_bar : Event → Bool
is_bar (event.Pending face id request until) = true
is_bar (event.InFlight reply) = true
is_bar _ = false

-- the event ends a request that is pending at a face: its final under the id, the end of the request, the face's closing, or a moment that is not before the last
abbrev pub ends_pending : ℕ → ℕ → ℕ → ℕ → Event → Bool
ends_pending face id request until (event.Finished by ended) = face == by && id == ended
ends_pending face id request until (event.Over over) = request == over
ends_pending face id request until (event.Closed closed) = face == closed
ends_pending face id request until (event.Moment now) = nat_le until now
ends_pending face id request until _ = false

-- the event ends a reply's flight
abbrev pub ends_flight : ℕ → Event → Bool
ends_flight reply (event.Sent sent) = reply == sent
ends_flight reply _ = false

-- the second event ends what lasts from the first
abbrev pub ends : Event → Event → Bool
ends (event.Pending face id request until) other = ends_pending face id request until other
ends (event.InFlight reply) other = ends_flight reply other
ends _ other = false

-- the number is this one
abbrev pub is_number : ℕ → Option ℕ → Bool
is_number n None = false
is_number n (Some m) = m == n

-- the row is of this request
abbrev pub is_of : ℕ → Row → Bool
is_of request row = is_number request row.request
