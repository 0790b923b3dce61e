-- Which rows concern a request, and the faces that rows name.
use Rattle.std.specs.Prelude.{ℕ, ◌==◌, ◌||◌, Bool, List, [], ◌∷◌, ◌++◌, Option, Some, None, if◌then◌else◌, filter, map, fold}
use Rattle.std.specs.List.{list_any}
use Rattle.zq_show.specs.declared.row.Event.{Event}
use Rattle.zq_show.specs.declared.row.Row.{Row}
use Rattle.zq_show.specs.PageRows.{ends, is_of}

-- the event of a row
abbrev pub event_of : Row → Event
event_of row = row.event

-- the line of a row
abbrev pub line_of : Row → ℕ
line_of row = row.line

-- what begins or ends with the rows of a request
abbrev pub begun : ℕ → List Row → List Event
begun request rows = map event_of (filter (is_of request) rows)

-- the event ends what began with one of these
abbrev pub is_ended : List Event → Event → Bool
is_ended events other = list_any (λ event. ends event other) events

-- the row is of the request, or ends what began with it
abbrev pub is_own : ℕ → List Event → Row → Bool
is_own request events row = is_of request row || is_ended events row.event

-- the lines of the rows that are of the request, or end what began with these
abbrev pub own_lines : ℕ → List Event → List Row → List ℕ
own_lines request events rows = map line_of (filter (is_own request events) rows)

-- the number is among these
abbrev pub has : ℕ → List ℕ → Bool
has number numbers = list_any (λ n. n == number) numbers

-- a line has a row
abbrev pub has_line : ℕ → List Row → Bool
has_line line rows = list_any (λ row. row.line == line) rows

-- the rows of these lines
abbrev pub rows_at : List ℕ → List Row → List Row
rows_at lines rows = filter (λ row. has row.line lines) rows

-- the rows of the lines that concern a request
abbrev pub chosen : ℕ → List Row → List Row
chosen request rows = rows_at (own_lines request (begun request rows) rows) rows

-- the faces, with one that was not there yet
abbrev pub with_face : List ℕ → Option ℕ → List ℕ
with_face lanes None = lanes
with_face lanes (Some face) = if has face lanes then lanes else lanes ++ face ∷ []

-- the faces, with that of the row
abbrev pub joined : List ℕ → Row → List ℕ
joined lanes row = with_face lanes row.face

-- the faces that the rows name, each once, in the order in which they first come
abbrev pub lanes_of : List Row → List ℕ
lanes_of rows = fold joined [] rows
