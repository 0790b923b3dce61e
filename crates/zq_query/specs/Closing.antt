-- What the closing of a face makes of the records.
use Rattle.std.specs.Prelude.{ℕ, ◌==◌, Bool, not, List}
use Rattle.std.specs.List.{filter}
use Rattle.std.specs.BTreeSet.{insert_key}
use Rattle.std.specs.Ordering.{nat_cmp}
use Rattle.zq_query.specs.declared.records.Final.{Final}
use Rattle.zq_query.specs.Records.{QueryState, Record, Pending, is_closed, ending_after, ending_landed, letting_go}

-- the entry is at the face
abbrev pub at_face : ℕ → Pending → Bool
at_face face e = e.face == face

-- the asker of the final is open
abbrev pub has_open_asker : List ℕ → Final → Bool
has_open_asker closed f = not (is_closed closed f.asker.0)

-- the requests that have nothing left without the entries that pass, and whose askers are open
abbrev pub finals_after : (Pending → Bool) → List ℕ → List Record → List Final
finals_after p closed rs = filter (has_open_asker closed) (ending_after p rs)

-- and those that have nothing left without the reply
abbrev pub finals_landed : ℕ → List ℕ → List Record → List Final
finals_landed reply closed rs = filter (has_open_asker closed) (ending_landed reply rs)

-- the closed faces, with one more
abbrev pub closed_with : ℕ → List ℕ → List ℕ
closed_with face closed = insert_key nat_cmp closed face

-- the finals that the closing hands, by number: not to the face itself
abbrev pub closing_finals : ℕ → QueryState → List Final
closing_finals face s = finals_after (at_face face) (closed_with face s.closed) s.records

-- the face is closed, and its entries are released
abbrev pub after_close : ℕ → QueryState → QueryState
after_close face s = record s { records = letting_go (at_face face) s.records; closed = closed_with face s.closed }
