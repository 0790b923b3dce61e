-- What faces were told, and for which keys there is room.
use Rattle.std.specs.Prelude.{◌≡◌, ℕ, Bool, true, false, List, map, Option, Some, None}
use Rattle.std.specs.List.{All, filter_map}
use Rattle.std.specs.Option.{is_some, option_map, option_map_or}
use Rattle.zq_index.specs.Texts.{at_text, has_text}
use Rattle.zq_told.specs.declared.types.ToldEntry.{ToldEntry}
use Rattle.zq_told.specs.declared.types.FacePlan.{FacePlan}
use Rattle.zq_told.specs.ToldSets.{ToldSet, ToldSets, Told, at_face}
use Rattle.zq_told.specs.Telling.{Row}

-- what was told of each key, and the keys for which there is room
pub record Shelf : Type 0 where
  pub told : Told
  pub rooms : List (List ℕ)

-- whether there is room for what is told of the key
abbrev pub has_room : Shelf → List ℕ → Bool
has_room s key = has_text key s.rooms

-- what is kept of a face, and its rooms
pub record Book : Type 0 where
  pub last : ℕ
  pub shelf : Shelf

-- what is kept of each face, with its rooms
abbrev pub Books : Type 0
Books = List (ℕ × Book)

-- what is kept of a face
abbrev pub ear_of : Book → ToldSet
ear_of b = record { last = b.last; told = b.shelf.told }

-- what is kept of each face
abbrev pub ears_of : Books → ToldSets
ears_of books = map (λ e. (e.0, ear_of e.1)) books

-- whether there is room at the face for what is told of the key; a face that is not there needs none
abbrev pub room_at : Books → ℕ → List ℕ → Bool
room_at books n key = option_map_or (λ (b : Book). has_room b.shelf key) (at_face n books) true

-- a row that tells has room
abbrev pub IsRoomy : (List ℕ → Bool) → Row → Type 0
IsRoomy room r = is_some r.1 ≡ true → room r.0 ≡ true

-- each row of the face's plan has room
abbrev pub HasRooms : Books → FacePlan → Type 0
HasRooms books p = All (IsRoomy (room_at books p.face.0)) p.rows

-- each row of the plan has room
abbrev pub IsReady : List FacePlan → Books → Type 0
IsReady plan books = All (HasRooms books) plan

-- there is room for the row's key only where something was told of it
abbrev pub IsBare : Shelf → Row → Type 0
IsBare s r = has_room s r.0 ≡ true → is_some (at_text r.0 s.told) ≡ true

-- so it is for each row of the face's plan, if the face is there
abbrev pub IsBareAt : Books → FacePlan → Type 0
IsBareAt books p = (b : Book) → at_face p.face.0 books ≡ Some b → All (IsBare b.shelf) p.rows

-- so it is for each face of the plan
abbrev pub AreBare : List FacePlan → Books → Type 0
AreBare plan books = All (IsBareAt books) plan

-- a slot that is room, and has no entry
abbrev pub is_free : Option (Option ToldEntry) → Bool
is_free None = false
is_free (Some None) = true
is_free (Some (Some t)) = false

-- a slot: a key's entry, or room for one
abbrev pub slot_entry : List ℕ × Option ToldEntry → Option (List ℕ × ToldEntry)
slot_entry s = option_map (λ t. (s.0, t)) s.1

-- the entries in slots
abbrev pub entries_in : List (List ℕ × Option ToldEntry) → Told
entries_in slots = filter_map slot_entry slots
