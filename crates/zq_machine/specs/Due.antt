-- What is due to each face outside regions of routers, and the keys on which a call may change it.
use Rattle.std.specs.Prelude.{ℕ, ◌==◌, Bool, true, false, not, ◌&&◌, ◌||◌, List, [], filter, fold, Option, None, is_none, if◌then◌else◌}
use Rattle.std.specs.BTreeSet.{insert_key}
use Rattle.std.specs.List.{list_any}
use Rattle.std.specs.List.Sorted.{IsStrictlySortedBy}
use Rattle.std.specs.Option.{option_and_then, option_map, option_map_or, option_to_list}
use Rattle.std.specs.Str.{bytes_eq}
use Rattle.zq_message.specs.declared.message.QueryableInfoType.{QueryableInfoType}
use Rattle.zq_key.specs.Key.{includes, intersects}
use Rattle.zq_message.specs.Region.{region_index}
use Rattle.zq_index.specs.Infos.{joined}
use Rattle.zq_index.specs.Texts.{text_cmp}
use Rattle.zq_strategy.specs.declared.types.Declaration.{Declaration}
use Rattle.zq_strategy.specs.declared.types.Strategy.{Strategy}
use Rattle.zq_strategy.specs.declared.types.Strategy.TheVariants as strategy
use Rattle.zq_strategy.specs.Fellows.{fellow_info}
use Rattle.zq_strategy.specs.Kept.{change_face}
use Rattle.zq_strategy.specs.Regions.{is_north, strategy_at}
use Rattle.zq_strategy.specs.State.{FaceState, HatState}
use Rattle.zq_strategy.specs.Trees.{region_keys}
use Rattle.zq_interests.specs.declared.types.InterestEntry.{InterestEntry}
use Rattle.zq_interests.specs.Interests.{Interests, asked_for, asks_folded, asks_for, meets, own_keys}
use Rattle.zq_machine.specs.declared.face.OpenFace.{OpenFace}
use Rattle.zq_machine.specs.State.{Core, at, change_hat_of, hat_at, hat_of}
use Rattle.zq_machine.specs.TextCalls.{TextCall, opening}
use Rattle.zq_machine.specs.Trees.{own_entry, touched}

-- ---- who is interested

-- a broker's face is interested where it asks, an upstream always, a peer in North always and elsewhere where it asks, and a router's face never
abbrev pub listens_by : Strategy → (north asks : Bool) → Bool
listens_by strategy.Broker north asks = asks
listens_by strategy.Client north asks = true
listens_by strategy.Peer north asks = north || asks
listens_by strategy.Router north asks = false

-- a face of the hat is interested in the key, which it asks for or not
abbrev pub listens_in : Interests → ℕ → List ℕ → HatState → Bool
listens_in ints face key h = listens_by (strategy_at h) (is_north h.region) (asks_for face key ints)

-- the face is open, and is interested in the key
abbrev pub listens : Core → Interests → ℕ → List ℕ → Bool
listens c ints face key = option_map_or (listens_in ints face key) (hat_of face c) false

-- ---- what there is to hear

-- what a face hears, of its fellows and of the other regions: under a broker of both, as a client or a peer of the other regions, among routers nothing
abbrev pub heard_by : Strategy → (fellows others : Option QueryableInfoType) → Option QueryableInfoType
heard_by strategy.Broker fellows others = joined fellows others
heard_by strategy.Client fellows others = others
heard_by strategy.Peer fellows others = others
heard_by strategy.Router fellows others = None

-- what a face of the hat at the place hears on the key
abbrev pub heard_in : ℕ → List ℕ → List (ℕ × HatState) → ℕ → HatState → Option QueryableInfoType
heard_in face key hats place h = heard_by (strategy_at h) (fellow_info face key h) (own_entry place key hats)

-- what an open face hears on the key by its region
abbrev pub heard_as : ℕ → List ℕ → List (ℕ × HatState) → OpenFace → Option QueryableInfoType
heard_as face key hats o = option_and_then (heard_in face key hats (region_index o.region)) (hat_at o.region hats)

-- what a face hears on the key, if it is open
abbrev pub heard : Core → ℕ → List ℕ → Option QueryableInfoType
heard c face key = option_and_then (heard_as face key c.hats) (at face c.faces)

-- what is heard on a key, if the face is interested there
abbrev pub plain_due : Core → Interests → ℕ → List ℕ → Option QueryableInfoType
plain_due c ints face key = if listens c ints face key then heard c face key else None

-- a region's keys join others in order, each once
abbrev pub with_region_keys : List (List ℕ) → ℕ × HatState → List (List ℕ)
with_region_keys keys h = fold (insert_key text_cmp) keys (region_keys h.1)

-- the keys on which regions have information, each once, in order
abbrev pub due_keys : Core → List (List ℕ)
due_keys c = fold with_region_keys [] c.hats

-- ---- one entry for all keys that meet a key

-- as a part of the entry for the key, an information on a key that meets it is complete only if that key includes it
abbrev pub seen_at : List ℕ → List ℕ → QueryableInfoType → QueryableInfoType
seen_at key k i = record { complete = i.complete && includes k key; distance = i.distance }

-- what is heard on a key joins the entry for another, if they meet
abbrev pub with_part : (List ℕ → Option QueryableInfoType) → List ℕ → Option QueryableInfoType → List ℕ → Option QueryableInfoType
with_part hear key m k = if intersects k key then joined m (option_map (seen_at key k) (hear k)) else m

-- all that is heard on the keys that meet the key, aggregated
abbrev pub folded_over : (List ℕ → Option QueryableInfoType) → List (List ℕ) → List ℕ → Option QueryableInfoType
folded_over hear keys key = fold (with_part hear key) None keys

-- what a face hears on all keys that meet the key, aggregated
abbrev pub folded : Core → ℕ → List ℕ → Option QueryableInfoType
folded c face key = folded_over (heard c face) (due_keys c) key

-- ---- what is due

-- a face of the hat is to hear of the key aggregated: it is not interested unasked, and asks for one
abbrev pub folds_in : Interests → ℕ → List ℕ → HatState → Bool
folds_in ints face key h = not (listens_by (strategy_at h) (is_north h.region) false) && asks_folded face key ints

-- the face is open, and is to hear of the key aggregated
abbrev pub folds : Core → Interests → ℕ → List ℕ → Bool
folds c ints face key = option_map_or (folds_in ints face key) (hat_of face c) false

-- what there is for the face at the key: the one entry, where it is to hear of one, and else what it hears there
abbrev pub meant : Core → Interests → ℕ → List ℕ → Option QueryableInfoType
meant c ints face key = if folds c ints face key then folded c face key else heard c face key

-- what is due to the face on the key: that, if it is interested
abbrev pub due : Core → Interests → ℕ → List ℕ → Option QueryableInfoType
due c ints face key = if listens c ints face key then meant c ints face key else None

-- one of the keys meets the key
abbrev pub is_met_by : List (List ℕ) → List ℕ → Bool
is_met_by keys key = list_any (λ k. intersects k key) keys

-- keys in order, with those of the face's aggregating interests that one of them meets
abbrev pub widened : ℕ → Interests → List (List ℕ) → List (List ℕ)
widened face ints keys = fold (insert_key text_cmp) keys (filter (is_met_by keys) (own_keys face ints))

-- the keys on which something may be due to the face, each once, in order: those, and those of its aggregating interests
abbrev pub face_keys : Core → Interests → ℕ → List (List ℕ)
face_keys c ints face = fold (insert_key text_cmp) (due_keys c) (own_keys face ints)

-- ---- what answers an interest

-- of the keys on which something may be due to the asker, those for which its interest asks
abbrev pub answer_keys : Core → Interests → (asker : ℕ) → InterestEntry → List (List ℕ)
answer_keys c ints asker asked = filter (asked_for asked) (face_keys c ints asker)

-- the interest asks for the key, or meets it where nothing is due (any more)
abbrev pub is_looked : Core → Interests → (asker : ℕ) → InterestEntry → List ℕ → Bool
is_looked c ints asker asked key = asked_for asked key || (meets asked.key key && is_none (due c ints asker key))

-- the keys that an interest of the asker looks at: the interest's own is among them
abbrev pub asked_keys : Core → Interests → (asker : ℕ) → InterestEntry → List (List ℕ)
asked_keys c ints asker asked = filter (is_looked c ints asker asked) (fold (insert_key text_cmp) (face_keys c ints asker) (option_to_list asked.key))

-- ---- what a call may change of it

-- the keys on which a call may change what a face hears, each once, in order: all where it opens the face, else those on which it changes what a region has
abbrev pub heard_touched : Core → TextCall → ℕ → List (List ℕ)
heard_touched c (opening o) face = if face == c.next_face then due_keys c else []
heard_touched c t face = fold (insert_key text_cmp) [] (touched c t)

-- the key is one of those
abbrev pub is_heard_touched : Core → TextCall → ℕ → List ℕ → Bool
is_heard_touched c t face key = list_any (λ k. bytes_eq k key) (heard_touched c t face)

-- the keys on which a call may change what is due to the face: those, and of its aggregating interests' keys those that one of them meets
abbrev pub due_touched : Core → Interests → TextCall → ℕ → List (List ℕ)
due_touched c ints t face = widened face ints (heard_touched c t face)

-- the key is one of those
abbrev pub is_due_touched : Core → Interests → TextCall → ℕ → List ℕ → Bool
is_due_touched c ints t face key = list_any (λ k. bytes_eq k key) (due_touched c ints t face)

-- all keys that are looked at stand in order, each once
pub record KeysRise (c : Core) (ints : Interests) (face : ℕ) : Type 0 where
  pub all : IsStrictlySortedBy text_cmp (due_keys c)
  pub own : IsStrictlySortedBy text_cmp (face_keys c ints face)
  pub touched : (t : TextCall) → IsStrictlySortedBy text_cmp (due_touched c ints t face)
  pub asked : (asked : InterestEntry) → IsStrictlySortedBy text_cmp (asked_keys c ints face asked)

-- the face has declared these, and what it declared is gone
abbrev pub redeclared : ℕ → List (ℕ × Declaration) → Core → Core
redeclared face ds c = change_hat_of face (change_face face (λ (f : FaceState). record f { declared = ds })) c
