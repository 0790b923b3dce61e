-- What a whole call looks at, by the hats of the regions as they are or as a change of one of them will make them.
use Rattle.std.specs.Prelude.{◌≡◌, ℕ, ◌==◌, Bool, true, false, List, [], Option, Some, None, if◌then◌else◌}
use Rattle.std.specs.BTreeMap.{is_at}
use Rattle.std.specs.List.{flat_map}
use Rattle.std.specs.Map.{remove_entry}
use Rattle.std.specs.Option.{option_map_or}
use Rattle.std.specs.Ordering.{nat_cmp}
use Rattle.zq_message.specs.declared.message.FaceId.{FaceId}
use Rattle.zq_strategy.specs.State.{HatState}
use Rattle.zq_told.specs.declared.types.FaceUpdate.{FaceUpdate}
use Rattle.zq_interests.specs.Interests.{Interests, interests_of}
use Rattle.zq_machine.specs.declared.call.Opening.{Opening}
use Rattle.zq_machine.specs.declared.face.OpenFace.{OpenFace}
use Rattle.zq_told.specs.Telling.{KeyDue}
use Rattle.zq_machine.specs.Deciding.{opened}
use Rattle.zq_machine.specs.Due.{widened}
use Rattle.zq_machine.specs.Neighbours.{with_dues}
use Rattle.zq_machine.specs.State.{Core, at}
use Rattle.zq_dispatcher.specs.Seats.{seats}
use Rattle.zq_dispatcher.specs.declared.types.RegionChange.{RegionChange}
use Rattle.zq_dispatcher.specs.Asking.{asking_in}
use Rattle.zq_dispatcher.specs.Dues.{listed_due}

-- the number is that of the face that a closing takes away, if there is one
abbrev pub is_gone : Option FaceId → ℕ → Bool
is_gone but number = option_map_or (λ (f : FaceId). f.0 == number) but false

-- the open faces without it
abbrev pub faces_but : Option FaceId → List (ℕ × OpenFace) → List (ℕ × OpenFace)
faces_but but faces = option_map_or (λ (f : FaceId). remove_entry (is_at (nat_cmp f.0)) faces) but faces

-- what will be due to an open face, on those of the keys in which it is interested, and on those of its aggregating interests' keys that one of them meets
abbrev pub dues_there : Interests → Option RegionChange → List (ℕ × HatState) → List (List ℕ) → ℕ × OpenFace → List KeyDue
dues_there ints next hats keys o = flat_map (listed_due (asking_in ints o.0) next keys o.0 o.1 hats) (widened o.0 ints keys)

-- an open face with these, if there are any
abbrev pub looked_as : Interests → Option RegionChange → List (ℕ × HatState) → List (List ℕ) → ℕ × OpenFace → List FaceUpdate
looked_as ints next hats keys o = with_dues o.0 (dues_there ints next hats keys o)

-- the same of faces
abbrev pub looked_over_as : Interests → Option RegionChange → List (ℕ × HatState) → List (List ℕ) → List (ℕ × OpenFace) → List FaceUpdate
looked_over_as ints next hats keys faces = flat_map (looked_as ints next hats keys) faces

-- the open face of the number, but for the one that a closing takes away
abbrev pub open_but : Option FaceId → List (ℕ × OpenFace) → ℕ → Option OpenFace
open_but but faces number = if is_gone but number then None else at number faces

-- what is looked at there
abbrev pub looked_there : Interests → Option RegionChange → List (ℕ × HatState) → List (List ℕ) → Option FaceId → List (ℕ × OpenFace) → ℕ → List FaceUpdate
looked_there ints next hats keys but faces number = option_map_or (λ o. looked_as ints next hats keys (number, o)) (open_but but faces number) []

-- each open face stands in its region's hat
abbrev pub AreSeated : List (ℕ × OpenFace) → List (ℕ × HatState) → Type 0
AreSeated faces hats = (n : ℕ) (o : OpenFace) → at n faces ≡ Some o → seats o.region n hats ≡ Some true

-- ---- the same of what decides before and after a call

-- before it these are the hats, and it opens the face so, under the next number, which no open face has; the face asks for nothing
pub record IsOpening (c : Core) (ints : Interests) (face : ℕ) (p : OpenFace) (o : Opening) (hats : List (ℕ × HatState)) : Type 0 where
  pub next : c.next_face ≡ face
  pub free : at face c.faces ≡ None
  pub opens : opened o ≡ p
  pub unasked : interests_of face ints ≡ []
  pub same : hats ≡ c.hats
