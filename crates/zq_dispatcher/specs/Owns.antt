-- The keys of faces' aggregating interests that some keys meet, gathered by face.
use Rattle.std.specs.Prelude.{◌≡◌, ℕ, Bool, false, ◌&&◌, List, [], Option}
use Rattle.std.specs.BTreeMap.{insert_entry}
use Rattle.std.specs.BTreeSet.{insert_key}
use Rattle.std.specs.List.{AllByRecursion}
use Rattle.std.specs.Option.{is_some, option_map_or}
use Rattle.std.specs.Ordering.{nat_cmp}
use Rattle.zq_index.specs.Texts.{has_text, text_cmp}
use Rattle.zq_interests.specs.declared.types.FaceKey.{FaceKey}
use Rattle.zq_interests.specs.Interests.{Interests, asks_folded, at, own_keys}
use Rattle.zq_machine.specs.Due.{is_met_by}
use Rattle.zq_dispatcher.specs.Dues.{AreKeys}

-- keys by face
abbrev pub Owns : Type 0
Owns = List (ℕ × List (List ℕ))

-- the face has some
abbrev pub has_face : ℕ → Owns → Bool
has_face face owns = is_some (at face owns)

-- those of the face
abbrev pub owns_of : ℕ → Owns → List (List ℕ)
owns_of face owns = option_map_or (λ ks. ks) (at face owns) []

-- a key joins those of the face
abbrev pub with_key : ℕ → List ℕ → Owns → Owns
with_key face key owns = insert_entry nat_cmp owns face (insert_key text_cmp (owns_of face owns) key)

-- a key that was found joins those of its face
abbrev pub with_folder : Owns → FaceKey → Owns
with_folder owns f = with_key f.face.0 f.key owns

-- by face they are the keys of aggregating interests that one of the keys meets
abbrev pub AreOwns : List (List ℕ) → Interests → Owns → Type 0
AreOwns keys ints owns = (face : ℕ) (own : List ℕ) → has_text own (owns_of face owns) ≡ (is_met_by keys own && has_text own (own_keys face ints))

-- each is a key
abbrev pub AllKeys : Owns → Type 0
AllKeys owns = (face : ℕ) → AreKeys (owns_of face owns)

-- the key is among them, if there are any
abbrev pub has_own : Option (List (List ℕ)) → List ℕ → Bool
has_own owns key = option_map_or (has_text key) owns false

-- of these keys the face asks for just those among them aggregated
abbrev pub AreFolded : Interests → ℕ → Option (List (List ℕ)) → List (List ℕ) → Type 0
AreFolded ints face owns keys = AllByRecursion (λ key. has_own owns key ≡ asks_folded face key ints) keys
