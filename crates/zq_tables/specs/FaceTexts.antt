-- The ids of one face as the texts that they stand for, and the choices among them.
use Rattle.std.specs.Prelude.{◌≡◌, ℕ, zero, suc, Bool, false, not, ◌&&◌, List, [], ◌∷◌, ◌++◌, length, take, drop, map, find, slice_index, Option, Some, None, option_map, unwrap_or, if◌then◌else◌, ◌==◌}
use Rattle.std.specs.Map.{keys_of}
use Rattle.std.specs.Str.{bytes_eq}
use Rattle.zq_key.specs.Key.{is_key}
use Rattle.zq_message.specs.declared.message.WireExpr.{WireExpr}
use Rattle.zq_message.specs.declared.message.Mapping.{Mapping}
use Rattle.zq_message.specs.declared.message.Mapping.TheVariants.{Sender, Receiver}
use Rattle.zq_names.specs.Names.{NameEntry, entry_at}
use Rattle.zq_names.specs.Texts.{nonwild}
use Rattle.zq_names.specs.declared.refusal.NameRefusal.{NameRefusal}
use Rattle.zq_names.specs.declared.refusal.NameRefusal.TheVariants.{UnknownScope, InvalidKeyExpr, Remapped, OutOfMemory}
use Rattle.zq_tables.specs.FaceIds.{FaceIds, of_id, with_id, next_id}
use Rattle.zq_tables.specs.declared.decl.DeclKey.{DeclKey}

-- the ids that a face declared with their texts, and those that were declared to it
pub record FaceTexts : Type 0 where
  pub theirs : List (ℕ × List ℕ)
  pub ours : List (ℕ × List ℕ)

-- each id with the text of its node
abbrev pub id_texts : List NameEntry → List (ℕ × ℕ) → List (ℕ × List ℕ)
id_texts names list = map (λ p. (p.0, (entry_at names p.1).text)) list

-- the face's own ids with their texts
abbrev pub theirs_texts : List NameEntry → FaceIds → List (ℕ × List ℕ)
theirs_texts names face = id_texts names face.theirs

-- the ids that were declared to the face, with their texts
abbrev pub ours_texts : List NameEntry → FaceIds → List (ℕ × List ℕ)
ours_texts names face = id_texts names face.ours

-- both sides with their texts
abbrev pub texts_of : List NameEntry → FaceIds → FaceTexts
texts_of names face = record { theirs = theirs_texts names face; ours = ours_texts names face }

-- ---- full texts

-- the side that a mapping names in what the face sends
abbrev pub text_side : FaceTexts → Mapping → List (ℕ × List ℕ)
text_side face Sender = face.theirs
text_side face Receiver = face.ours

-- the suffix behind the text of the scope
abbrev pub behind_scope : List (ℕ × List ℕ) → WireExpr → Option (List ℕ)
behind_scope list w = if w.scope == 0 then Some w.suffix else option_map (λ t. t ++ w.suffix) (of_id list w.scope)

-- the full text of an expression that the face sends
abbrev pub full_of : FaceTexts → WireExpr → Option (List ℕ)
full_of face w = behind_scope (text_side face w.mapping) w

-- the two sides change places
abbrev pub swapped : FaceTexts → FaceTexts
swapped face = record { theirs = face.ours; ours = face.theirs }

-- what the face reads in an expression that is handed to it
abbrev pub read_by : FaceTexts → WireExpr → Option (List ℕ)
read_by face w = full_of (swapped face) w

-- ---- the best key of a text

-- this text stands there
abbrev pub is_text : List ℕ → Option (List ℕ) → Bool
is_text text None = false
is_text text (Some t) = bytes_eq t text

-- the id stands for the text; the id 0 stands for none
abbrev pub names_text : List (ℕ × List ℕ) → List ℕ → ℕ → Bool
names_text list text id = not (id == 0) && is_text text (of_id list id)

-- the least id that stands for the text
abbrev pub least_name : List ℕ → List (ℕ × List ℕ) → Option ℕ
least_name text list = find (names_text list text) (keys_of list)

-- the first answer where there is one, else the other
abbrev pub or_else : {X : Type 0} → Option X → Option X → Option X
or_else None y = y
or_else (Some x) y = Some x

-- an id with the side that declared it
abbrev pub tagged : Mapping → Option ℕ → Option (ℕ × Mapping)
tagged side None = None
tagged side (Some id) = Some (id, side)

-- the id that names the text to the face, its own first
abbrev pub known : FaceTexts → List ℕ → Option (ℕ × Mapping)
known face t = or_else (tagged Receiver (least_name t face.theirs)) (tagged Sender (least_name t face.ours))

-- the same of the first k bytes, with their number
abbrev pub known_at : FaceTexts → List ℕ → ℕ → Option (ℕ × Mapping × ℕ)
known_at face t k = option_map (λ x. (x.0, x.1, k)) (known face (take k t))

-- the longest part of t that ends before one of its first n places with a `/`, and is known
abbrev pub best_to : FaceTexts → List ℕ → ℕ → Option (ℕ × Mapping × ℕ)
best_to face t zero = None
best_to face t (suc k) = if slice_index t k == 47 then or_else (known_at face t k) (best_to face t k) else best_to face t k

-- the longest part of t that is t or ends before a `/`, and is known
abbrev pub best_part : FaceTexts → List ℕ → Option (ℕ × Mapping × ℕ)
best_part face t = or_else (known_at face t (length t)) (best_to face t (length t))

-- the text under scope 0
abbrev pub whole : List ℕ → WireExpr
whole t = record { scope = 0; mapping = Sender; suffix = t }

-- the text by the id of its part, else whole
abbrev pub key_from : Option (ℕ × Mapping × ℕ) → List ℕ → WireExpr
key_from None t = whole t
key_from (Some p) t = record { scope = p.0; mapping = p.1; suffix = drop p.2 t }

-- by the longest part that is known, or whole
abbrev pub best_key : FaceTexts → List ℕ → WireExpr
best_key face t = key_from (best_part face t) t

-- ---- the declared key of a text

-- a declared key without an id
abbrev pub whole_key : List ℕ → DeclKey
whole_key t = record { wire = whole t; declared = None }

-- a part with the rest behind it, under an id
abbrev pub under : ℕ → Mapping → List ℕ → Option ℕ → DeclKey
under i m rest declared = record { wire = record { scope = i; mapping = m; suffix = rest }; declared = declared }

-- a new id for the part
abbrev pub new_choice : List ℕ → Option ℕ → Option DeclKey
new_choice rest None = None
new_choice rest (Some i) = Some (under i Sender rest (Some i))

-- the id that the part has, or a new one where that may be
abbrev pub known_choice : FaceTexts → Bool → List ℕ → Option (ℕ × Mapping) → Option DeclKey
known_choice face may rest (Some x) = Some (under x.0 x.1 rest None)
known_choice face may rest None = if may then new_choice rest (next_id face.theirs face.ours) else None

-- the declared key by its part p, if an id may be had
abbrev pub part_choice : FaceTexts → Bool → List ℕ → List ℕ → Option DeclKey
part_choice face may p rest = known_choice face may rest (known face p)

-- the declared key by its part p, whole where p is empty or no id may be had
abbrev pub prefix_key : FaceTexts → Bool → List ℕ → List ℕ → DeclKey
prefix_key face may t [] = whole_key t
prefix_key face may t (c ∷ p) = unwrap_or (part_choice face may (c ∷ p) (drop (length (c ∷ p)) t)) (whole_key t)

-- the declared key of a text at a face: by an id of its part without a `*`, by a new id for that part, or whole
abbrev pub declared_key : FaceTexts → Bool → Bool → List ℕ → DeclKey
declared_key face local may t = if local then whole_key t else prefix_key face may t (nonwild t)

-- the ids with the one that was declared for a node, if one was
abbrev pub with_new : FaceIds → ℕ → Option ℕ → FaceIds
with_new face node None = face
with_new face node (Some i) = record face { ours = with_id face.ours i node }

-- with the id that was declared, if one was
abbrev pub with_declared : FaceTexts → List ℕ → Option ℕ → FaceTexts
with_declared face t None = face
with_declared face t (Some i) = record face { ours = with_id face.ours i (nonwild t) }

-- ---- registering

-- whether an id that stands for a text may stand for t
abbrev pub id_refusal : Option (List ℕ) → List ℕ → Option NameRefusal
id_refusal None t = None
id_refusal (Some u) t = if bytes_eq u t then None else Some Remapped

-- the first reason not to let the id stand for a text, which may be unknown
abbrev pub text_refusal : FaceTexts → ℕ → Option (List ℕ) → Option NameRefusal
text_refusal face i None = Some UnknownScope
text_refusal face i (Some t) = if is_key t then (if i == 0 then Some Remapped else id_refusal (of_id face.theirs i) t) else Some InvalidKeyExpr

-- the first reason not to let the id stand for the expression's text
abbrev pub register_refusal : FaceTexts → ℕ → WireExpr → Option NameRefusal
register_refusal face i w = text_refusal face i (full_of face w)

-- with the id standing for the text where it stood for none
abbrev pub added : FaceTexts → ℕ → List ℕ → Option (List ℕ) → FaceTexts
added face i t None = record face { theirs = with_id face.theirs i t }
added face i t (Some u) = face

-- with the id standing for the text; one that is there stays as it is
abbrev pub registered : FaceTexts → ℕ → List ℕ → FaceTexts
registered face i t = added face i t (of_id face.theirs i)

-- the refusal is lack of memory or the first reason
abbrev pub IsReason : Option NameRefusal → NameRefusal → Type 0
IsReason reason OutOfMemory = Unit {0}
IsReason reason e = reason ≡ Some e
