-- What the index of a hat has of its faces' declarations, and what is offered by it.
use Rattle.std.specs.Prelude.{ℕ, ◌≡◌, Bool, true, false, List, [], Option, Some, None, map, filter, if◌then◌else◌}
use Rattle.std.specs.List.{flat_map}
use Rattle.std.specs.List.Sorted.{IsStrictlySortedBy}
use Rattle.std.specs.Option.{option_and_then, option_map_or}
use Rattle.std.specs.Map.{keys_of}
use Rattle.std.specs.Ordering.{nat_cmp}
use Rattle.std.specs.Str.{bytes_eq}
use Rattle.zq_key.specs.Key.{is_key}
use Rattle.zq_message.specs.declared.message.QueryableInfoType.{QueryableInfoType}
use Rattle.zq_index.specs.Texts.{text_cmp, at_text}
use Rattle.zq_index.specs.Holders.{Place, Holdings, Index, place_cmp, at_place, held_at, without_holding}
use Rattle.zq_strategy.specs.declared.types.Declaration.{Declaration}
use Rattle.zq_strategy.specs.Kept.{at_id, is_on, declaration}
use Rattle.zq_strategy.specs.State.{FaceState}
use Rattle.zq_strategy.specs.Regions.{in_routers}
use Rattle.zq_strategy.specs.declared.types.Strategy.{Strategy}
use Rattle.zq_strategy.specs.Nets.{is_zid}
use Rattle.zq_strategy.specs.Seating.{Seat, has_seat, seat_cmp}

-- the information of a declaration, if it is on the key
abbrev pub info_on : List ℕ → Declaration → Option QueryableInfoType
info_on key d = if bytes_eq d.key key then Some d.info else None

-- the information that the face declared on the key under the id
abbrev pub declared_at : List ℕ → Place → List (ℕ × FaceState) → Option QueryableInfoType
declared_at key p faces = option_and_then (λ f. option_and_then (info_on key) (declaration p.1 f)) (at_id p.0 faces)

-- the face's declarations on the key
abbrev pub held_by : List ℕ → ℕ × FaceState → Holdings
held_by key f = map (λ d. ((f.0, d.0), d.1.info)) (filter (is_on key) f.1.declared)

-- the faces' declarations on the key
abbrev pub held : List ℕ → List (ℕ × FaceState) → Holdings
held key faces = flat_map (held_by key) faces

-- the faces' ids are in order
abbrev pub AreOrdered : List (ℕ × FaceState) → Type 0
AreOrdered faces = (n : ℕ) (f : FaceState) → at_id n faces ≡ Some f → IsStrictlySortedBy nat_cmp (keys_of f.declared)

-- the index has just what the faces declared
pub record IsTied (faces : List (ℕ × FaceState)) (index : Index) : Type 0 where
  pub numbers : IsStrictlySortedBy nat_cmp (keys_of faces)
  pub ids : AreOrdered faces
  pub texts : IsStrictlySortedBy text_cmp (keys_of index)
  pub places : (key : List ℕ) (hs : Holdings) → at_text key index ≡ Some hs → IsStrictlySortedBy place_cmp (keys_of hs)
  pub used : (key : List ℕ) → at_text key index ≡ Some [] → ⊥
  pub keys : (key : List ℕ) (hs : Holdings) → at_text key index ≡ Some hs → is_key key ≡ true
  pub same : (key : List ℕ) (p : Place) → at_place p (held_at key index) ≡ declared_at key p faces

-- without all that the face declared
abbrev pub without_declared : ℕ → Index → ℕ × Declaration → Index
without_declared number index d = without_holding d.1.key (number, d.0) index

-- the face of the number has the id
abbrev pub sits : List (ℕ × FaceState) → Seat → Bool
sits faces seat = option_map_or (λ (f : FaceState). is_zid (record { 0 = seat.0 }) f.zid) (at_id seat.1 faces) false

-- in a region of routers the seats are those of its faces, in any other there are none
pub record IsSeated (strategy : Strategy) (faces : List (ℕ × FaceState)) (seats : List Seat) : Type 0 where
  pub order : IsStrictlySortedBy seat_cmp seats
  pub same : (seat : Seat) → has_seat seat seats ≡ in_routers strategy (sits faces seat) false

-- the index and the seats are those of the faces
pub record IsWhole (strategy : Strategy) (faces : List (ℕ × FaceState)) (index : Index) (seats : List Seat) : Type 0 where
  pub tied : IsTied faces index
  pub seated : IsSeated strategy faces seats
