-- The ids of one face: for each side the pairs of an id and a node's number, by id.
use Rattle.std.specs.Prelude.{◌≡◌, ℕ, ◌+◌, ◌<◌, zero, suc, Bool, false, ◌||◌, List, [], ◌∷◌, Option, Some, None, if◌then◌else◌, ◌==◌}
use Rattle.std.specs.Option.{is_some}
use Rattle.std.specs.List.{All, Contains}
use Rattle.std.specs.Ordering.{nat_cmp}
use Rattle.std.specs.Map.{lookup, remove_entry, keys_of}
use Rattle.std.specs.BTreeMap.{is_at, insert_entry}
use Rattle.zq_message.specs.declared.message.Mapping.{Mapping}
use Rattle.zq_message.specs.declared.message.Mapping.TheVariants.{Sender, Receiver}
use Rattle.zq_names.specs.Names.{NameEntry, ids}

-- the ids that the face declared, and those that were declared to it
pub record FaceIds : Type 0 where
  pub theirs : List (ℕ × ℕ)
  pub ours : List (ℕ × ℕ)

-- neither side has an id
abbrev pub no_ids : FaceIds
no_ids = record { theirs = []; ours = [] }

-- what an id stands for
abbrev pub of_id : {X : Type 0} → List (ℕ × X) → ℕ → Option X
of_id list i = lookup (is_at (nat_cmp i)) list

-- with the id standing for x
abbrev pub with_id : {X : Type 0} → List (ℕ × X) → ℕ → X → List (ℕ × X)
with_id list i x = insert_entry nat_cmp list i x

-- without the id
abbrev pub without_id : {X : Type 0} → List (ℕ × X) → ℕ → List (ℕ × X)
without_id list i = remove_entry (is_at (nat_cmp i)) list

-- the side that a mapping names in what the face sends
abbrev pub side : FaceIds → Mapping → List (ℕ × ℕ)
side face Sender = face.theirs
side face Receiver = face.ours

-- with other ids on that side
abbrev pub with_side : FaceIds → Mapping → List (ℕ × ℕ) → FaceIds
with_side face Sender ids = record face { theirs = ids }
with_side face Receiver ids = record face { ours = ids }

-- the side that it names in what is handed to the face
abbrev pub handed_side : FaceIds → Mapping → List (ℕ × ℕ)
handed_side face Sender = face.ours
handed_side face Receiver = face.theirs

-- whether one of the sides uses the id
abbrev pub is_used : {X : Type 0} → List (ℕ × X) → List (ℕ × X) → ℕ → Bool
is_used theirs ours i = is_some (of_id theirs i) || is_some (of_id ours i)

-- the first of n ids from i on that neither side uses
unfoldable pub free_from : {X : Type 0} → List (ℕ × X) → List (ℕ × X) → ℕ → ℕ → Option ℕ
free_from theirs ours zero i = None
free_from theirs ours (suc n) i = if is_used theirs ours i then free_from theirs ours n (i + 1) else Some i

-- the least id from 1 to 65535 that neither side uses
abbrev pub next_id : {X : Type 0} → List (ℕ × X) → List (ℕ × X) → Option ℕ
next_id theirs ours = free_from theirs ours 65535 1

-- the node of each id is live
abbrev pub AreLiveIds : List NameEntry → List (ℕ × ℕ) → Type 0
AreLiveIds names list = All (λ p. Contains (ids names) p.1) list

-- the node of each id of the face is live
pub record AreLive (names : List NameEntry) (face : FaceIds) : Type 0 where
  pub theirs : AreLiveIds names face.theirs
  pub ours : AreLiveIds names face.ours

-- the least id of a node
abbrev pub least_id : List (ℕ × ℕ) → ℕ → Option ℕ
least_id [] node = None
least_id (p ∷ ps) node = if p.1 == node then Some p.0 else least_id ps node

-- what holds of the fields of every `FaceNames`: no id is 0, and each from 1 on below `free` is used
pub record IsFace (theirs ours : List (ℕ × ℕ)) (free : ℕ) : Type 0 where
  pub theirs_positive : All (λ i. 0 < i) (keys_of theirs)
  pub ours_positive : All (λ i. 0 < i) (keys_of ours)
  pub positive : 0 < free
  pub used : (i : ℕ) → 0 < i → i < free → is_used theirs ours i ≡ false → ⊥
