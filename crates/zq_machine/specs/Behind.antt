-- What a face says by what it writes, by its namespace alone; and which texts a list of keys bars.
use Rattle.std.specs.Prelude.{◌≡◌, ℕ, ◌<◌, true, List, Option, Some, None, Contains, length, if◌then◌else◌}
use Rattle.zq_key.specs.Key.{includes, is_plain}
use Rattle.zq_key.specs.Space.{behind}
use Rattle.zq_message.specs.declared.message.FaceId.{FaceId}
use Rattle.zq_message.specs.declared.message.Request.{Request}
use Rattle.zq_message.specs.declared.message.Response.{Response}
use Rattle.zq_message.specs.declared.message.WireExpr.{WireExpr}
use Rattle.zq_namespace.specs.Entry.{is_bare_error}
use Rattle.zq_tables.specs.declared.resolved.Resolved.TheVariants as said_word
use Rattle.zq_tables.specs.Naming.{face_naming, said_of}
use Rattle.zq_machine.specs.Gates.{denied_by, gate_at, space_of}
use Rattle.zq_machine.specs.State.{State}
use Rattle.zq_machine.specs.TextCalls.{asked_said, said, said_by_reply}

-- a key of the list includes the text
abbrev pub Bars : List (List ℕ) → List ℕ → Type 0
Bars denied text = (k : List ℕ) × Contains denied k × (includes k text ≡ true)

-- the face may not ask for what a request says: a key of its deny list includes the text
abbrev pub IsBarred : State → FaceId → Request → Type 0
IsBarred s face r = (text : List ℕ) × (said face r.wire s ≡ said_word.Full text) × Bars (denied_by (gate_at face.0 s.gates)) text

-- in a namespace an expression without a number says what it writes behind the namespace, and an empty one the namespace itself; one with a number says what it would in no namespace, which need not be under this one; and the namespace is plain, so that behind it texts are keys, and stand to each other, as without it
pub record SaysBehind (n : List ℕ) (s : State) (face : FaceId) (w : WireExpr) : Type 0 where
  pub written : w.scope ≡ 0 → 0 < length w.suffix → said face w s ≡ said_word.Full (behind n w.suffix)
  pub empty : w.scope ≡ 0 → length w.suffix ≡ 0 → said face w s ≡ said_word.Full n
  pub numbered : 0 < w.scope → said face w s ≡ said_of (face_naming face.0 s.names) w
  pub plain : is_plain n ≡ true

-- a face in a namespace says by an expression what it writes behind it; in no namespace it says what it writes
abbrev pub SaysAt : Option (List ℕ) → State → FaceId → WireExpr → Type 0
SaysAt None s face w = said face w s ≡ said_of (face_naming face.0 s.names) w
SaysAt (Some n) s face w = SaysBehind n s face w

-- each face says by every expression what it writes behind its namespace, if it has one; the same by the expression of a reply, but nothing by the empty one of an error; and by a request it asks for what it says, where it may
pub record SaysPromise (s : State) : Type 0 where
  pub writes : (face : FaceId) (w : WireExpr) → SaysAt (space_of (gate_at face.0 s.gates)) s face w
  pub replies : (face : FaceId) (r : Response) → said_by_reply face r s ≡ (if is_bare_error r then said_word.Empty else said face r.wire s)
  pub asks : (face : FaceId) (r : Request) → (IsBarred s face r → ⊥) → asked_said face r s ≡ said face r.wire s
