-- How the numbers, the queryables and the interests of the faces, and the entries of routers, stand for nodes of the names, and hold them.
use Rattle.std.specs.Prelude.{◌≡◌, ℕ, suc, ◌+◌, ◌<◌, ◌≤◌, ◌==◌, Bool, true, false, List, [], ◌∷◌, map, length, Option, Some, None, if◌then◌else◌, ◌⊎◌}
use Rattle.std.specs.Option.{is_some}
use Rattle.std.specs.List.{All, Contains, insert, list_any, remove}
use Rattle.std.specs.List.Sorted.{IsStrictlySortedBy}
use Rattle.std.specs.Ordering.{nat_cmp}
use Rattle.std.specs.Map.{lookup, set_value, values_of}
use Rattle.std.specs.BTreeMap.{is_at}
use Rattle.std.specs.BTreeSet.{insert_key}
use Rattle.std.specs.Set.{remove_key}
use Rattle.zq_names.specs.Texts.{text_cmp}
use Rattle.zq_names.specs.Names.{NameEntry, ids, entry_at}
use Rattle.zq_names.specs.Keeping.{AllStay}
use Rattle.zq_names.specs.Idle.{IdleAt, NoneIdle}
use Rattle.zq_tables.specs.FaceIds.{FaceIds, of_id, next_id, side, with_side, with_id, without_id}
use Rattle.zq_tables.specs.FaceTexts.{id_texts, texts_of}
use Rattle.zq_tables.specs.Naming.{EntryRows, FaceKeys, IsEntryRow, Names, NamingState, first_stays, sent_side, with_sent}
use Rattle.zq_tables.specs.declared.holder.Holder.{Holder}
use Rattle.zq_tables.specs.declared.holder.Holder.TheVariants.{Number, Queryable, Interest}

-- the numbers of a face, and the ids of its queryables and of its interests with a key, with the nodes that they stand for
pub record FaceHolds : Type 0 where
  pub numbers : FaceIds
  pub queryables : List (ℕ × ℕ)
  pub interests : List (ℕ × ℕ)

-- the open faces, each with what holds nodes there
abbrev pub Faces : Type 0
Faces = List (ℕ × FaceHolds)

-- what stands for keys at a face, by the texts of its nodes
abbrev pub keys_of_face : List NameEntry → FaceHolds → FaceKeys
keys_of_face names f = record { numbers = texts_of names f.numbers; queryables = id_texts names f.queryables; interests = id_texts names f.interests }

-- the regions where routers have an entry, each with the nodes of the entries' keys, by text
abbrev pub EntryNodes : Type 0
EntryNodes = List (ℕ × List ℕ)

-- the texts of nodes
abbrev pub node_texts : List NameEntry → List ℕ → List (List ℕ)
node_texts names nodes = map (λ n. (entry_at names n).text) nodes

-- each face with the texts of its nodes
abbrev pub keys_by : List NameEntry → Faces → List (ℕ × FaceKeys)
keys_by names faces = map (λ p. (p.0, keys_of_face names p.1)) faces

-- each region with the texts of its nodes
abbrev pub rows_by : List NameEntry → EntryNodes → EntryRows
rows_by names rows = map (λ p. (p.0, node_texts names p.1)) rows

-- each face and each region with the texts of its nodes
abbrev pub texts_by : List NameEntry → Faces → EntryNodes → NamingState
texts_by names faces rows = record { faces = keys_by names faces; rows = rows_by names rows }

-- what holds nodes at an open face
abbrev pub ids_at : ℕ → Faces → Option FaceHolds
ids_at face faces = lookup (is_at (nat_cmp face)) faces

-- the ids of a holder at a face, with their nodes
abbrev pub held_ids : Holder → FaceHolds → List (ℕ × ℕ)
held_ids (Number m) f = side f.numbers m
held_ids Queryable f = f.queryables
held_ids Interest f = f.interests

-- the numbers of a side, and neither queryables nor interests
abbrev pub are_numbers : Holder → Bool
are_numbers (Number m) = true
are_numbers Queryable = false
are_numbers Interest = false

-- none where the face isn't open
abbrev pub ids_in : Holder → Option FaceHolds → List (ℕ × ℕ)
ids_in h None = []
ids_in h (Some f) = held_ids h f

-- the node of an id
abbrev pub node_at : Holder → ℕ → ℕ → Faces → Option ℕ
node_at h face id faces = of_id (ids_in h (ids_at face faces)) id

-- the face isn't open, or the id stands for something there
abbrev pub is_settled : Holder → ℕ → Option FaceHolds → Bool
is_settled h id None = true
is_settled h id (Some f) = is_some (of_id (held_ids h f) id)

-- the same of a face by its number
abbrev pub settled_at : Holder → ℕ → ℕ → Faces → Bool
settled_at h face id faces = is_settled h id (ids_at face faces)

-- with other ids of a holder
abbrev pub with_ids : Holder → FaceHolds → List (ℕ × ℕ) → FaceHolds
with_ids (Number m) f ids = record f { numbers = with_side f.numbers m ids }
with_ids Queryable f ids = record f { queryables = ids }
with_ids Interest f ids = record f { interests = ids }

-- an id stands for a node
abbrev pub with_node : Holder → ℕ → ℕ → FaceHolds → FaceHolds
with_node h id node f = with_ids h f (with_id (held_ids h f) id node)

-- an id is released
abbrev pub without_node : Holder → ℕ → FaceHolds → FaceHolds
without_node h id f = with_ids h f (without_id (held_ids h f) id)

-- the change of a face that was looked up
abbrev pub put_ids : ℕ → (FaceHolds → FaceHolds) → Faces → Option FaceHolds → Faces
put_ids face f faces None = faces
put_ids face f faces (Some n) = set_value (is_at (nat_cmp face)) faces (f n)

-- what holds nodes at an open face is changed
abbrev pub change_ids : ℕ → (FaceHolds → FaceHolds) → Faces → Faces
change_ids face f faces = put_ids face f faces (ids_at face faces)

-- the number is the least free one of the face, where it is open
abbrev pub IsNext : ℕ → ℕ → Faces → Type 0
IsNext face id faces = (f : FaceHolds) → ids_at face faces ≡ Some f → next_id f.numbers.theirs f.numbers.ours ≡ Some id

-- ---- the same as texts

-- the ids of a holder with their texts
abbrev pub held_keys : Holder → FaceKeys → Names
held_keys (Number m) n = sent_side n.numbers m
held_keys Queryable n = n.queryables
held_keys Interest n = n.interests

-- with other ids of a holder
abbrev pub with_keys : Holder → FaceKeys → Names → FaceKeys
with_keys (Number m) n names = with_sent m n names
with_keys Queryable n names = record n { queryables = names }
with_keys Interest n names = record n { interests = names }

-- an id stands for a text
abbrev pub with_key : Holder → ℕ → List ℕ → FaceKeys → FaceKeys
with_key h id text n = with_keys h n (with_id (held_keys h n) id text)

-- an id that stood for no text stands for this one
abbrev pub with_first_key : Holder → ℕ → List ℕ → FaceKeys → FaceKeys
with_first_key h id text n = with_keys h n (first_stays id text (held_keys h n))

-- an id is released
abbrev pub without_key : Holder → ℕ → FaceKeys → FaceKeys
without_key h id n = with_keys h n (without_id (held_keys h n) id)

-- all ids of a holder are released
abbrev pub without_keys : Holder → FaceKeys → FaceKeys
without_keys h n = with_keys h n []

-- ---- how often a node is held

-- the sum of a measure of the values
abbrev pub weigh : {X : Type 0} → (X → ℕ) → List (ℕ × X) → ℕ
weigh f [] = 0
weigh f (e ∷ es) = f e.1 + weigh f es

-- once for a number of the node i itself
abbrev pub hold_of : ℕ → ℕ → ℕ
hold_of i n = if n == i then 1 else 0

-- how many ids of a side stand for the node i
abbrev pub side_holds : ℕ → List (ℕ × ℕ) → ℕ
side_holds i es = weigh (hold_of i) es

-- how many numbers, queryables and interests of a face stand for the node i
abbrev pub face_holds : ℕ → FaceHolds → ℕ
face_holds i f = side_holds i f.numbers.theirs + side_holds i f.numbers.ours + side_holds i f.queryables + side_holds i f.interests

-- how many numbers, queryables and interests of all faces stand for the node i
abbrev pub holds_by : ℕ → Faces → ℕ
holds_by i faces = weigh (face_holds i) faces

-- how many nodes of a row are the node i
abbrev pub row_holds : ℕ → List ℕ → ℕ
row_holds i [] = 0
row_holds i (n ∷ nodes) = hold_of i n + row_holds i nodes

-- how many regions have an entry whose key stands for the node i
abbrev pub rows_hold : ℕ → EntryNodes → ℕ
rows_hold i rows = weigh (row_holds i) rows

-- how often all of these hold the node i
abbrev pub all_holds : ℕ → Faces → EntryNodes → ℕ
all_holds i faces rows = holds_by i faces + rows_hold i rows

-- the ids rise from the first one on, and are below the limit
abbrev pub Rises : {X : Type 0} → ℕ → ℕ → List (ℕ × X) → Type 0
Rises limit first [] = first ≤ limit
Rises limit first (e ∷ es) = (first ≤ e.0) × Rises limit (suc e.0) es

-- the least id that a holder may have: no number is 0
abbrev pub least : Holder → ℕ
least (Number m) = 1
least Queryable = 0
least Interest = 0

-- its ids are below this
abbrev pub limit : Holder → ℕ
limit (Number m) = 65536
limit Queryable = 4294967296
limit Interest = 4294967296

-- the ids of each holder are in order
pub record IsFace (f : FaceHolds) : Type 0 where
  pub rises : (h : Holder) → Rises (limit h) (least h) (held_ids h f)

-- the indices of the regions rise, each has a node, and the nodes rise by their texts
pub record AreRows (names : List NameEntry) (rows : EntryNodes) : Type 0 where
  pub regions : Rises 770 0 rows
  pub each : All IsEntryRow (values_of (rows_by names rows))

-- each node that is stood for is live, each node is held once for each number, queryable and interest that stands for it and once for each region with an entry on its text, and none is there for nothing
pub record IsHeld (names : List NameEntry) (faces : Faces) (rows : EntryNodes) : Type 0 where
  pub live : (i : ℕ) → 0 < all_holds i faces rows → Contains (ids names) i
  pub counted : (i : ℕ) → Contains (ids names) i → (entry_at names i).holds ≡ all_holds i faces rows
  pub sides : All IsFace (values_of faces)
  pub order : AreRows names rows
  pub lean : NoneIdle names

-- the same, with the node n held once more
pub record InHand (names : List NameEntry) (faces : Faces) (rows : EntryNodes) (n : ℕ) : Type 0 where
  pub live : (i : ℕ) → 0 < all_holds i faces rows + hold_of i n → Contains (ids names) i
  pub counted : (i : ℕ) → Contains (ids names) i → (entry_at names i).holds ≡ all_holds i faces rows + hold_of i n
  pub sides : All IsFace (values_of faces)
  pub order : AreRows names rows
  pub lean : NoneIdle names

-- ---- where a key stands in a row

-- the number is a node's
pub record IsNode (names : List NameEntry) (n : ℕ) : Type 0 where
  pub live : Contains (ids names) n

-- the key is the text at a place
pub record StandsAt (texts : List (List ℕ)) (key : List ℕ) (at : ℕ) : Type 0 where
  pub in_range : at < length texts
  pub there : list_any (is_at (text_cmp key)) texts ≡ true
  pub stays : insert_key text_cmp texts key ≡ texts
  pub out : remove_key (is_at (text_cmp key)) texts ≡ remove texts at
  pub rise : IsStrictlySortedBy text_cmp (remove texts at)

-- the key is none of the texts, and would go to a place
pub record GoesTo (texts : List (List ℕ)) (key : List ℕ) (at : ℕ) : Type 0 where
  pub in_range : at ≤ length texts
  pub absent : list_any (is_at (text_cmp key)) texts ≡ false
  pub put : insert_key text_cmp texts key ≡ insert texts at key
  pub rise : IsStrictlySortedBy text_cmp (insert texts at key)

-- ---- a hold is taken, and released

-- the text t has a node r, which is held once more; all else is as it was, and what is new isn't held
pub record TakesHold (old new : List NameEntry) (t : List ℕ) (r : ℕ) : Type 0 where
  pub live : Contains (ids new) r
  pub text : (entry_at new r).text ≡ t
  pub kept : (i : ℕ) → Contains (ids old) i → Contains (ids new) i × ((entry_at new i).text ≡ (entry_at old i).text) × ((entry_at new i).holds ≡ (entry_at old i).holds + hold_of i r)
  pub fresh : (i : ℕ) → Contains (ids new) i → Contains (ids old) i ⊎ ((entry_at new i).holds ≡ hold_of i r)
  pub lean : NoneIdle old → NoneIdle new

-- the node n is held once less; what is not held may go, and all else is as it was
pub record LetsGo (old new : List NameEntry) (n : ℕ) : Type 0 where
  pub stays : (i : ℕ) → Contains (ids old) i → hold_of i n < (entry_at old i).holds → Contains (ids new) i
  pub kept : (i : ℕ) → Contains (ids new) i → Contains (ids old) i × ((entry_at new i).text ≡ (entry_at old i).text) × ((entry_at new i).holds + hold_of i n ≡ (entry_at old i).holds)
  pub lean : NoneIdle old → NoneIdle new

-- the text t was made, and its node r stands under the number; what is new of the names isn't held
pub record Numbers (names names' : List NameEntry) (old new : FaceIds) (id : ℕ) (t : List ℕ) (r : ℕ) : Type 0 where
  pub live : Contains (ids names') r
  pub text : (entry_at names' r).text ≡ t
  pub kept : AllStay names names'
  pub fresh : (i : ℕ) → Contains (ids names') i → Contains (ids names) i ⊎ ((entry_at names' i).holds ≡ 0)
  pub lean : NoneIdle names → IdleAt names' r
  pub mapped : new ≡ record old { theirs = with_id old.theirs id r }

-- the same at an open face
pub record Declares (names names' : List NameEntry) (old new : Faces) (face id : ℕ) (t : List ℕ) (r : ℕ) : Type 0 where
  pub was : FaceHolds
  pub is : FaceIds
  pub at : ids_at face old ≡ Some was
  pub numbers : Numbers names names' was.numbers is id t r
  pub put : new ≡ set_value (is_at (nat_cmp face)) old (record was { numbers = is })
