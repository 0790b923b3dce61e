-- Which open faces have which ids.
use Rattle.std.specs.Prelude.{ℕ, ◌==◌, Bool, false, not, List, filter, find, Option, Some, None, if◌then◌else◌, option_map}
use Rattle.std.specs.List.{list_any, filter_map}
use Rattle.std.specs.Option.{option_map_or, option_and_then}
use Rattle.std.specs.BTreeMap.{is_at}
use Rattle.std.specs.Ordering.{nat_cmp, ordering_then}
use Rattle.std.specs.declared.cmp.Ordering.{Ordering}
use Rattle.zq_message.specs.declared.message.FaceId.{FaceId}
use Rattle.zq_message.specs.declared.message.Zid.{Zid}

-- an id, and the number of an open face that has it
abbrev pub Seat : Type 0
Seat = ℕ × ℕ

-- seats by id, then by face
abbrev pub seat_cmp : Seat → Seat → Ordering
seat_cmp a b = ordering_then (nat_cmp a.0 b.0) (nat_cmp a.1 b.1)

-- the seat is among them
abbrev pub has_seat : Seat → List Seat → Bool
has_seat seat seats = list_any (is_at (seat_cmp seat)) seats

-- the seat is of the id
abbrev pub is_of_zid : Zid → Seat → Bool
is_of_zid zid seat = zid.0 == seat.0

-- the face of the id's first seat
abbrev pub seated : Zid → List Seat → Option ℕ
seated zid seats = option_map (λ (s : Seat). s.1) (find (is_of_zid zid) seats)

-- the number of a face
abbrev pub number : FaceId → ℕ
number face = face.0

-- the number is not that of the face that a call came from
abbrev pub is_other : Option ℕ → ℕ → Bool
is_other from n = not (option_map_or (λ g. g == n) from false)

-- the faces of ids, without the one that the call came from: where that has an id's first seat, no other takes its place
abbrev pub faces_by : Option ℕ → (Zid → Option ℕ) → List Zid → List ℕ
faces_by from face zids = filter (is_other from) (filter_map face zids)

-- the face of the id's first seat, if it is not the one that the call came from
abbrev pub other_seated : Option ℕ → List Seat → Zid → Option FaceId
other_seated from seats zid = option_and_then (λ n. if is_other from n then Some (record { 0 = n }) else None) (seated zid seats)
