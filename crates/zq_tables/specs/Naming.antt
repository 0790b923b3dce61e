-- What stands for keys at each open face, by number or by the id of a queryable or an interest, and what expressions say by it.
use Rattle.std.specs.Prelude.{ℕ, ◌<◌, length, ◌==◌, Bool, false, not, ◌||◌, is_some, List, [], ◌∷◌, ◌++◌, Option, Some, None, if◌then◌else◌, unwrap_or}
use Rattle.std.specs.List.{All, flat_map, list_any}
use Rattle.std.specs.List.Sorted.{IsStrictlySortedBy}
use Rattle.std.specs.Str.{bytes_eq}
use Rattle.std.specs.Ordering.{nat_cmp}
use Rattle.std.specs.Map.{keys_of, lookup, remove_entry, set_value, values_of}
use Rattle.std.specs.BTreeMap.{is_at, insert_entry}
use Rattle.std.specs.BTreeSet.{insert_key}
use Rattle.std.specs.Set.{remove_key}
use Rattle.zq_key.specs.Key.{is_key}
use Rattle.zq_message.specs.declared.message.Mapping.{Mapping}
use Rattle.zq_message.specs.declared.message.Mapping.TheVariants as mapping
use Rattle.zq_message.specs.declared.message.WireExpr.{WireExpr}
use Rattle.zq_names.specs.Texts.{heads, text_cmp}
use Rattle.zq_names.specs.declared.refusal.NameRefusal.{NameRefusal}
use Rattle.zq_names.specs.declared.refusal.NameRefusal.TheVariants as refusal
use Rattle.zq_tables.specs.FaceIds.{of_id}
use Rattle.zq_tables.specs.FaceTexts.{FaceTexts, text_side, swapped, whole, best_key, with_declared}
use Rattle.zq_tables.specs.declared.resolved.Resolved.{Resolved}
use Rattle.zq_tables.specs.declared.resolved.Resolved.TheVariants as said

-- numbers with the texts that they stand for, by number
abbrev pub Names : Type 0
Names = List (ℕ × List ℕ)

-- the numbers that a face declared, and those that the gateway declared to it
abbrev pub FaceNaming : Type 0
FaceNaming = FaceTexts

-- what stands for keys at a face: its numbers, and the ids of its queryables and of its interests with a key
pub record FaceKeys : Type 0 where
  pub numbers : FaceNaming
  pub queryables : Names
  pub interests : Names

-- the keys on which routers of a region have an entry, by region index and by text; a region without an entry has no row
abbrev pub EntryRows : Type 0
EntryRows = List (ℕ × List (List ℕ))

-- what stands for keys: at the open faces, by face number, and for the entries of routers
pub record NamingState : Type 0 where
  pub faces : List (ℕ × FaceKeys)
  pub rows : EntryRows

-- no number is declared on either side
abbrev pub no_names : FaceNaming
no_names = record { theirs = []; ours = [] }

-- nothing stands for a key at a face
abbrev pub no_keys : FaceKeys
no_keys = record { numbers = no_names; queryables = []; interests = [] }

-- no face is open, and no router has an entry
abbrev pub no_naming : NamingState
no_naming = record { faces = []; rows = [] }

-- what stands for keys at a face, if it is open
abbrev pub naming_at : ℕ → NamingState → Option FaceKeys
naming_at face s = lookup (is_at (nat_cmp face)) s.faces

-- what stands for keys at a face, nothing where it isn't open
abbrev pub face_keys : ℕ → NamingState → FaceKeys
face_keys face s = unwrap_or (naming_at face s) no_keys

-- the numbers of a face
abbrev pub face_naming : ℕ → NamingState → FaceNaming
face_naming face s = (face_keys face s).numbers

-- the ids of a face's queryables, with their keys
abbrev pub face_queryables : ℕ → NamingState → Names
face_queryables face s = (face_keys face s).queryables

-- the ids of a face's interests, with their keys
abbrev pub face_interests : ℕ → NamingState → Names
face_interests face s = (face_keys face s).interests

-- the text of a number
abbrev pub text_at : ℕ → Names → Option (List ℕ)
text_at id names = of_id names id

-- in what a face sends, Sender reads its own numbers and Receiver the gateway's
abbrev pub sent_side : FaceNaming → Mapping → Names
sent_side n m = text_side n m

-- in what a face is handed it is the other way round
abbrev pub handed_side : FaceNaming → Mapping → Names
handed_side n m = text_side (swapped n) m

-- what a suffix says under a scope, by the scope's text
abbrev pub said_under : Option (List ℕ) → List ℕ → Resolved
said_under None suffix = said.Unscoped
said_under (Some text) suffix = said.Full (text ++ suffix)

-- what a suffix says under scope 0
abbrev pub said_plainly : List ℕ → Resolved
said_plainly [] = said.Empty
said_plainly (b ∷ suffix) = said.Full (b ∷ suffix)

-- what an expression says, by the numbers of each side
abbrev pub said_by : (Mapping → Names) → WireExpr → Resolved
said_by side w =
    if w.scope == 0 then said_plainly w.suffix
    else said_under (text_at w.scope (side w.mapping)) w.suffix

-- what an expression says that the face sends
abbrev pub said_of : FaceNaming → WireExpr → Resolved
said_of n w = said_by (sent_side n) w

-- what an expression says to the face that it is handed to
abbrev pub read_by : FaceNaming → WireExpr → Resolved
read_by n w = said_by (handed_side n) w

-- with other numbers of the face's own
abbrev pub with_theirs : FaceKeys → Names → FaceKeys
with_theirs n names = record n { numbers = record n.numbers { theirs = names } }

-- the face declares a number
abbrev pub with_name : ℕ → List ℕ → FaceKeys → FaceKeys
with_name id text n = with_theirs n (insert_entry nat_cmp n.numbers.theirs id text)

-- the face gives a number up
abbrev pub without_name : ℕ → FaceKeys → FaceKeys
without_name id n = with_theirs n (remove_entry (is_at (nat_cmp id)) n.numbers.theirs)

-- with other numbers on the side that a mapping names in what the face sends
abbrev pub with_sent : Mapping → FaceKeys → Names → FaceKeys
with_sent mapping.Sender n names = with_theirs n names
with_sent mapping.Receiver n names = record n { numbers = record n.numbers { ours = names } }

-- a number of that side is given up
abbrev pub without_sent : Mapping → ℕ → FaceKeys → FaceKeys
without_sent m id n = with_sent m n (remove_entry (is_at (nat_cmp id)) (sent_side n.numbers m))

-- the id stands for the text, if it stood for none
abbrev pub first_stays : ℕ → List ℕ → Names → Names
first_stays id text names = if is_some (text_at id names) then names else insert_entry nat_cmp names id text

-- the face declares a queryable; one of that id keeps its key
abbrev pub with_queryable : ℕ → List ℕ → FaceKeys → FaceKeys
with_queryable id text n = record n { queryables = first_stays id text n.queryables }

-- the face withdraws a queryable
abbrev pub without_queryable : ℕ → FaceKeys → FaceKeys
without_queryable id n = record n { queryables = remove_entry (is_at (nat_cmp id)) n.queryables }

-- the face declares an interest with a key; one of that id keeps its key
abbrev pub with_interest : ℕ → List ℕ → FaceKeys → FaceKeys
with_interest id text n = record n { interests = first_stays id text n.interests }

-- the face withdraws an interest
abbrev pub without_interest : ℕ → FaceKeys → FaceKeys
without_interest id n = record n { interests = remove_entry (is_at (nat_cmp id)) n.interests }

-- the number that was declared to the face, if one was, stands for the part of the text without a `*`
abbrev pub with_told_number : List ℕ → Option ℕ → FaceKeys → FaceKeys
with_told_number text id n = record n { numbers = with_declared n.numbers text id }

-- what stands for keys at a face is changed, where the face is open
abbrev pub put_naming : ℕ → (FaceKeys → FaceKeys) → NamingState → Option FaceKeys → NamingState
put_naming face f s None = s
put_naming face f s (Some n) = record s { faces = set_value (is_at (nat_cmp face)) s.faces (f n) }

-- what stands for keys at an open face is changed
abbrev pub change_naming : ℕ → (FaceKeys → FaceKeys) → NamingState → NamingState
change_naming face f s = put_naming face f s (naming_at face s)

-- a face is opened, with nothing that stands for a key there
abbrev pub opened_naming : ℕ → NamingState → NamingState
opened_naming face s = record s { faces = insert_entry nat_cmp s.faces face no_keys }

-- a face is closed, with all that stood for keys there
abbrev pub closed_naming : ℕ → NamingState → NamingState
closed_naming face s = record s { faces = remove_entry (is_at (nat_cmp face)) s.faces }

-- ---- entries of routers

-- with other rows of entries
abbrev pub with_rows : EntryRows → NamingState → NamingState
with_rows rows s = record s { rows = rows }

-- what a region has in its row, nothing where it has none
abbrev pub row_at : {X : Type 0} → ℕ → List (ℕ × List X) → List X
row_at region rows = unwrap_or (lookup (is_at (nat_cmp region)) rows) []

-- a region has this row from then on, and none where nothing is in it
abbrev pub with_row : {X : Type 0} → ℕ → List X → List (ℕ × List X) → List (ℕ × List X)
with_row region [] rows = remove_entry (is_at (nat_cmp region)) rows
with_row region (k ∷ ks) rows = insert_entry nat_cmp rows region (k ∷ ks)

-- routers of the region have an entry on the key
abbrev pub has_entry_key : ℕ → List ℕ → NamingState → Bool
has_entry_key region key s = list_any (is_at (text_cmp key)) (row_at region s.rows)

-- routers of the region have an entry on the key from then on
abbrev pub with_entry_key : ℕ → List ℕ → NamingState → NamingState
with_entry_key region key s = with_rows (with_row region (insert_key text_cmp (row_at region s.rows) key) s.rows) s

-- routers of the region have no entry on the key any more
abbrev pub without_entry_key : ℕ → List ℕ → NamingState → NamingState
without_entry_key region key s = with_rows (with_row region (remove_key (is_at (text_cmp key)) (row_at region s.rows)) s.rows) s

-- a row has keys, which rise by text
pub record IsEntryRow (keys : List (List ℕ)) : Type 0 where
  pub some : 0 < length keys
  pub rise : IsStrictlySortedBy text_cmp keys

-- the regions rise by index, and each has a row
pub record AreEntryRows (rows : EntryRows) : Type 0 where
  pub regions : IsStrictlySortedBy nat_cmp (keys_of rows)
  pub each : All IsEntryRow (values_of rows)

-- another text stands there
abbrev pub is_other : List ℕ → Option (List ℕ) → Bool
is_other text None = false
is_other text (Some t) = not (bytes_eq t text)

-- the number 0, and one that stands for another text, can't be declared
abbrev pub remaps : ℕ → List ℕ → Option (List ℕ) → Bool
remaps id text standing = (id == 0) || is_other text standing

-- why a number can't be declared for a text, if it can't
abbrev pub declare_refusal : ℕ → List ℕ → FaceNaming → Option NameRefusal
declare_refusal id text n = if is_key text then (if remaps id text (text_at id n.theirs) then Some refusal.Remapped else None) else Some refusal.InvalidKeyExpr

-- a text under no number
abbrev pub plain : List ℕ → WireExpr
plain text = whole text

-- the text as it is handed to the face: by the longest numbered part of whole chunks, else whole
abbrev pub best : FaceNaming → List ℕ → WireExpr
best n text = best_key n text

-- the texts that the numbers, the queryables and the interests of a face stand for
abbrev pub face_texts : FaceKeys → List (List ℕ)
face_texts n = values_of n.numbers.theirs ++ values_of n.numbers.ours ++ values_of n.queryables ++ values_of n.interests

-- the texts that the numbers, the queryables and the interests of all open faces stand for, and those of the entries of routers
abbrev pub all_texts : NamingState → List (List ℕ)
all_texts s = flat_map face_texts (values_of s.faces) ++ flat_map (λ (p : ℕ × List (List ℕ)). p.1) s.rows

-- a number, a queryable, an interest or an entry of a router stands for the text, or for one of which it is a part that ends before a `/`; the empty text is the root's, and no such part
abbrev pub has_context : List ℕ → NamingState → Bool
has_context [] s = false
has_context (b ∷ t) s = list_any (bytes_eq (b ∷ t)) (flat_map heads (all_texts s))
