-- Whether a key is matched by what faces declared, or other regions have.
use Rattle.std.specs.Prelude.{ℕ, ◌==◌, Bool, false, not, ◌&&◌, ◌||◌, List}
use Rattle.std.specs.List.{list_any}
use Rattle.std.specs.Option.{option_map_or}
use Rattle.zq_message.specs.declared.message.QueryableInfoType.{QueryableInfoType}
use Rattle.zq_key.specs.Key.{includes}
use Rattle.zq_strategy.specs.declared.types.Declaration.{Declaration}
use Rattle.zq_strategy.specs.Kept.{face_at}
use Rattle.zq_strategy.specs.State.{FaceState, HatState}
use Rattle.zq_hat.specs.declared.status.Locality.{Locality}
use Rattle.zq_hat.specs.declared.status.Locality.TheVariants as locality

-- what is declared on a key matches another: its key includes that one, and it is complete if that is asked
abbrev pub matches : List ℕ → Bool → List ℕ × QueryableInfoType → Bool
matches key complete e = includes e.0 key && (not complete || e.1.complete)

-- a declaration matches
abbrev pub is_match : List ℕ → Bool → ℕ × Declaration → Bool
is_match key complete d = matches key complete (d.1.key, d.1.info)

-- the face declared a match
abbrev pub face_matches : List ℕ → Bool → FaceState → Bool
face_matches key complete f = list_any (is_match key complete) f.declared

-- it is another face, and declared a match
abbrev pub is_other_match : ℕ → List ℕ → Bool → ℕ × FaceState → Bool
is_other_match face key complete f = not (f.0 == face) && face_matches key complete f.1

-- the face itself declared a match
abbrev pub own_matches : ℕ → List ℕ → Bool → HatState → Bool
own_matches face key complete h = option_map_or (face_matches key complete) (face_at face h) false

-- another face, or another region, has a match
abbrev pub remote_matches : ℕ → List ℕ → Bool → List (List ℕ × QueryableInfoType) → HatState → Bool
remote_matches face key complete others h = list_any (is_other_match face key complete) h.faces || list_any (matches key complete) others

-- there is a match of the asked locality
abbrev pub is_matched : ℕ → Locality → List ℕ → Bool → List (List ℕ × QueryableInfoType) → HatState → Bool
is_matched face locality.SessionLocal key complete others h = own_matches face key complete h
is_matched face locality.Remote key complete others h = remote_matches face key complete others h
is_matched face locality.Any key complete others h = own_matches face key complete h || remote_matches face key complete others h
