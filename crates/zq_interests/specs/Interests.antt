-- What faces ask to hear.
use Rattle.std.specs.Prelude.{ℕ, ◌≡◌, ◌==◌, Bool, true, false, not, ◌&&◌, List, [], map, filter, Option, Some, None, if◌then◌else◌}
use Rattle.std.specs.BTreeMap.{insert_entry, is_at}
use Rattle.std.specs.List.{filter_map, list_any}
use Rattle.std.specs.Map.{lookup, remove_entry, set_value}
use Rattle.std.specs.Option.{option_map_or}
use Rattle.std.specs.Ordering.{nat_cmp}
use Rattle.zq_message.specs.declared.message.FaceId.{FaceId}
use Rattle.zq_key.specs.Key.{intersects}
use Rattle.zq_index.specs.Texts.{text_cmp}
use Rattle.zq_interests.specs.declared.types.FaceKey.{FaceKey}
use Rattle.zq_interests.specs.declared.types.InterestEntry.{InterestEntry}
use Rattle.zq_interests.specs.declared.types.Test.{Test}
use Rattle.zq_interests.specs.declared.types.Test.TheVariants.{Asks, Folds, Keyed}

-- the interests of one face, by id
abbrev pub Asked : Type 0
Asked = List (ℕ × InterestEntry)

-- the interests of faces: by face, and by id
abbrev pub Interests : Type 0
Interests = List (ℕ × List (ℕ × InterestEntry))

-- what stands at a number
abbrev pub at : {X : Type 0} → ℕ → List (ℕ × X) → Option X
at n entries = lookup (is_at (nat_cmp n)) entries

-- the interests of a face
abbrev pub interests_of : ℕ → Interests → List (ℕ × InterestEntry)
interests_of face ints = option_map_or (λ es. es) (at face ints) []

-- what the face asks under the id
abbrev pub interest_at : ℕ → ℕ → Interests → Option InterestEntry
interest_at face id ints = at id (interests_of face ints)

-- the face asks this under the id
abbrev pub with_interest : ℕ → ℕ → InterestEntry → Interests → Interests
with_interest face id asked ints = insert_entry nat_cmp ints face (insert_entry nat_cmp (interests_of face ints) id asked)

-- the face asks nothing under the id; one that never asked is not there afterwards either
abbrev pub without_interest : ℕ → ℕ → Interests → Interests
without_interest face id ints = set_value (is_at (nat_cmp face)) ints (remove_entry (is_at (nat_cmp id)) (interests_of face ints))

-- the face asks nothing at all
abbrev pub closed_face : ℕ → Interests → Interests
closed_face face ints = remove_entry (is_at (nat_cmp face)) ints

-- whether the same is asked for
abbrev pub same_asked : Option (List ℕ) → Option (List ℕ) → Bool
same_asked None None = true
same_asked None (Some b) = false
same_asked (Some a) None = false
same_asked (Some a) (Some b) = is_at (text_cmp a) b

-- the face asks for something else under the id
abbrev pub asks_another : ℕ → ℕ → Option (List ℕ) → Interests → Bool
asks_another face id asked ints = option_map_or (λ (i : InterestEntry). not (same_asked i.key asked)) (interest_at face id ints) false

-- what is asked for has no key, or its key meets the key
abbrev pub meets : Option (List ℕ) → List ℕ → Bool
meets asked key = option_map_or (λ k. intersects k key) asked true

-- the interest has no key, or its key meets the key
abbrev pub is_met : List ℕ → ℕ × InterestEntry → Bool
is_met key i = meets i.1.key key

-- what is asked for has no key, or the key itself
abbrev pub is_own : Option (List ℕ) → List ℕ → Bool
is_own asked key = option_map_or (λ k. is_at (text_cmp k) key) asked true

-- an interest asks for the key: one that is aggregating for its own alone, and each other for all that it meets
abbrev pub asked_for : InterestEntry → List ℕ → Bool
asked_for i key = if i.aggregate then is_own i.key key else meets i.key key

-- so does one under an id
abbrev pub wants : List ℕ → ℕ × InterestEntry → Bool
wants key i = asked_for i.1 key

-- an interest of the face asks for the key
abbrev pub asks_for : ℕ → List ℕ → Interests → Bool
asks_for face key ints = list_any (wants key) (interests_of face ints)

-- the key of an aggregating interest; one without a key counts as not aggregating
abbrev pub own_key : InterestEntry → Option (List ℕ)
own_key i = if i.aggregate then i.key else None

-- an interest is aggregating, and the key is its own
abbrev pub folded_for : InterestEntry → List ℕ → Bool
folded_for i key = option_map_or (λ k. is_at (text_cmp k) key) (own_key i) false

-- so is one under an id
abbrev pub wants_folded : List ℕ → ℕ × InterestEntry → Bool
wants_folded key i = folded_for i.1 key

-- an interest of the face asks for the key aggregated over all keys that meet it
abbrev pub asks_folded : ℕ → List ℕ → Interests → Bool
asks_folded face key ints = list_any (wants_folded key) (interests_of face ints)

-- the keys of the face's aggregating interests
abbrev pub own_keys : ℕ → Interests → List (List ℕ)
own_keys face ints = filter_map (λ (i : ℕ × InterestEntry). own_key i.1) (interests_of face ints)

-- the interest meets the key, and numbers may be declared for keys
abbrev pub wants_keyed : List ℕ → ℕ × InterestEntry → Bool
wants_keyed key i = i.1.keys && is_met key i

-- what an interest may be tested for on a key
abbrev pub passes : Test → List ℕ → InterestEntry → Bool
passes Asks key i = asked_for i key
passes Folds key i = folded_for i key
passes Keyed key i = i.keys && meets i.key key

-- one under an id passes the test
abbrev pub is_passing : Test → List ℕ → ℕ × InterestEntry → Bool
is_passing test key i = passes test key i.1

-- an interest of the face meets the key, and numbers may be declared for keys
abbrev pub has_keyed : ℕ → List ℕ → Interests → Bool
has_keyed face key ints = list_any (wants_keyed key) (interests_of face ints)

-- an interest of the face meets the key
abbrev pub is_asker : List ℕ → ℕ × List (ℕ × InterestEntry) → Bool
is_asker key f = list_any (is_met key) f.1

-- the faces with an interest that meets the key, in order, each once
abbrev pub askers : List ℕ → Interests → List FaceId
askers key ints = map (λ f. record { 0 = f.0 }) (filter (is_asker key) ints)

-- it is the face, with the key
abbrev pub is_folder : ℕ → List ℕ → FaceKey → Bool
is_folder face key f = (f.face.0 == face) && is_at (text_cmp key) f.key

-- these are the keys of aggregating interests that the key meets, each with its face
abbrev pub AreFolders : List ℕ → Interests → List FaceKey → Type 0
AreFolders key ints fs = (face : ℕ) (own : List ℕ) → list_any (is_folder face own) fs ≡ (intersects own key && list_any (is_at (text_cmp own)) (own_keys face ints))
