-- Where interests are kept by what they ask for: those in all keys, and those in a key by its text.
use Rattle.std.specs.Prelude.{ℕ, ◌≡◌, Bool, true, false, not, ◌&&◌, List, [], ◌∷◌, ◌++◌, filter, fold, map, Option, Some, None, if◌then◌else◌}
use Rattle.std.specs.BTreeMap.{is_at}
use Rattle.std.specs.BTreeSet.{insert_key}
use Rattle.std.specs.List.{flat_map, list_any}
use Rattle.std.specs.List.Sorted.{IsStrictlySortedBy}
use Rattle.std.specs.Map.{keys_of}
use Rattle.std.specs.Option.{is_some, option_map_or}
use Rattle.std.specs.Ordering.{nat_cmp}
use Rattle.zq_message.specs.declared.message.FaceId.{FaceId}
use Rattle.zq_key.specs.Key.{intersects, is_key}
use Rattle.zq_index.specs.Holders.{AreListed, Place, place_cmp}
use Rattle.zq_index.specs.Texts.{Lists, at_text, text_cmp}
use Rattle.zq_interests.specs.declared.types.FaceKey.{FaceKey}
use Rattle.zq_interests.specs.declared.types.InterestEntry.{InterestEntry}
use Rattle.zq_interests.specs.Interests.{Interests, at, interest_at, same_asked}

-- places by the texts of keys
abbrev pub Keyed : Type 0
Keyed = List (List ℕ × List Place)

-- the places of interests in all keys, and of those in a key by its text
pub record Shelf : Type 0 where
  pub all : List Place
  pub keyed : Keyed

-- whether the place is among them
abbrev pub has_place : Place → List Place → Bool
has_place p ps = list_any (is_at (place_cmp p)) ps

-- the places under a text
abbrev pub places_at : List ℕ → Keyed → List Place
places_at key index = option_map_or (λ ps. ps) (at_text key index) []

-- whether the place is under the text
abbrev pub is_under : List ℕ → Place → Keyed → Bool
is_under key p index = has_place p (places_at key index)

-- it is the place under the text
abbrev pub is_same : List ℕ → Place → List ℕ → Place → Bool
is_same key p t q = is_at (text_cmp key) t && is_at (place_cmp p) q

-- whether the place is kept under what is asked for
abbrev pub is_kept : Option (List ℕ) → Place → Shelf → Bool
is_kept None p s = has_place p s.all
is_kept (Some key) p s = is_under key p s.keyed

-- it is the place under what is asked for
abbrev pub is_spot : Option (List ℕ) → Place → Option (List ℕ) → Place → Bool
is_spot asked p other q = same_asked asked other && is_at (place_cmp p) q

-- the place of an interest that asked for something else
abbrev pub is_left : Option InterestEntry → Option (List ℕ) → Place → Option (List ℕ) → Place → Bool
is_left before asked p other q = option_map_or (λ i. not (same_asked i.key asked) && is_spot i.key p other q) before false

-- the place of one of the face's interests
abbrev pub is_of : ℕ → List (ℕ × InterestEntry) → Option (List ℕ) → Place → Bool
is_of face es other q = list_any (λ e. is_spot e.1.key (face, e.0) other q) es

-- whether there is an interest that asks for just that
abbrev pub asks_just : Option (List ℕ) → Option InterestEntry → Bool
asks_just asked o = option_map_or (λ i. same_asked i.key asked) o false

-- each text is a key
abbrev pub AreKeys : Keyed → Type 0
AreKeys index = (t : List ℕ) → is_some (at_text t index) ≡ true → is_key t ≡ true

-- the text has a place
abbrev pub HasPlace : List ℕ → Keyed → Type 0
HasPlace t index = (q : Place) × (is_under t q index ≡ true)

-- each text is a key, listed where it has to be, and has a place
pub record AreFit (index : Keyed) (lists : Lists) : Type 0 where
  pub keys : AreKeys index
  pub listed : AreListed index lists
  pub placed : (t : List ℕ) → is_some (at_text t index) ≡ true → HasPlace t index

-- so it is, but for the one text, which may have lost its last place
pub record AreFitBut (key : List ℕ) (index : Keyed) (lists : Lists) : Type 0 where
  pub keys : AreKeys index
  pub listed : AreListed index lists
  pub placed : (t : List ℕ) → is_at (text_cmp key) t ≡ false → is_some (at_text t index) ≡ true → HasPlace t index

-- numbers and ids are in order, and just the interests are kept, each under what it asks for
pub record AreKept (ints : Interests) (shelf : Shelf) : Type 0 where
  pub numbers : IsStrictlySortedBy nat_cmp (keys_of ints)
  pub ids : (face : ℕ) (es : List (ℕ × InterestEntry)) → at face ints ≡ Some es → IsStrictlySortedBy nat_cmp (keys_of es)
  pub same : (asked : Option (List ℕ)) (p : Place) → is_kept asked p shelf ≡ asks_just asked (interest_at p.0 p.1 ints)

-- the face of a place joins others, in order, each once
abbrev pub with_face : List ℕ → Place → List ℕ
with_face faces p = insert_key nat_cmp faces p.0

-- the places under a key, if it meets the key
abbrev pub met_at : List ℕ → List ℕ × List Place → List Place
met_at key e = if intersects e.0 key then e.1 else []

-- the places of interests that meet the key
abbrev pub met_places : List ℕ → Shelf → List Place
met_places key s = s.all ++ flat_map (met_at key) s.keyed

-- their faces, in order, each once
abbrev pub met_faces : List ℕ → Shelf → List ℕ
met_faces key s = fold with_face [] (met_places key s)

-- the face of the number
abbrev pub numbered : ℕ → FaceId
numbered n = record { 0 = n }

-- a place, and the text under which it is
abbrev pub Spot : Type 0
Spot = Place × List ℕ

-- the places under a key, if it meets the key, each with it
abbrev pub spots_at : List ℕ → List ℕ × List Place → List Spot
spots_at key e = if intersects e.0 key then map (λ p. (p, e.0)) e.1 else []

-- a spot joins others
abbrev pub with_spot : List Spot → Spot → List Spot
with_spot spots s = spots ++ s ∷ []

-- the interest at the spot is aggregating
abbrev pub is_folding : Interests → Spot → Bool
is_folding ints s = option_map_or (λ (i : InterestEntry). i.aggregate) (interest_at s.0.0 s.0.1 ints) false

-- the face of a spot, and its text
abbrev pub folder_at : Spot → FaceKey
folder_at s = record { face = record { 0 = s.0.0 }; key = s.1 }

-- the keys of aggregating interests that meet the key, each with its face
abbrev pub folders_in : List ℕ → Interests → Shelf → List FaceKey
folders_in key ints s = map folder_at (filter (is_folding ints) (flat_map (spots_at key) s.keyed))
