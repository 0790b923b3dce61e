-- What the receivers of messages hear of them: what they are told, each key read by the numbers that were declared before.
use Rattle.std.specs.Prelude.{◌≡◌, ℕ, Bool, true, false, List, [], ◌∷◌, ◌++◌, Option, Some, None}
use Rattle.std.specs.Option.{is_some}
use Rattle.zq_message.specs.declared.message.Declare.{Declare}
use Rattle.zq_message.specs.declared.message.DeclareBody.{DeclareBody}
use Rattle.zq_message.specs.declared.message.DeclareBody.TheVariants as body
use Rattle.zq_message.specs.declared.message.FaceId.{FaceId}
use Rattle.zq_message.specs.declared.message.Message.{Message}
use Rattle.zq_message.specs.declared.message.Message.TheVariants as message
use Rattle.zq_tables.specs.FaceIds.{with_id}
use Rattle.zq_tables.specs.Naming.{FaceKeys, FaceNaming, NamingState, change_naming, face_naming, naming_at, read_by}
use Rattle.zq_machine.specs.Handing.{Handed}
use Rattle.zq_machine.specs.Messages.{Telling, TellingBody, all_told, key_ended, key_told}
use Rattle.zq_machine.specs.Selecting.{full_text}

-- a number that was declared to a face stands for the text there
abbrev pub with_ours : ℕ → List ℕ → FaceNaming → FaceNaming
with_ours id text n = record n { ours = with_id n.ours id text }

-- the same among all that stands for keys at the face
abbrev pub with_heard : ℕ → List ℕ → FaceKeys → FaceKeys
with_heard id text n = record n { numbers = with_ours id text n.numbers }

-- what stands for keys once its receiver has a declaration
abbrev pub heard_body : FaceId → DeclareBody → NamingState → NamingState
heard_body to (body.DeclareKeyExpr id w) names = change_naming to.0 (with_heard id w.suffix) names
heard_body to (body.UndeclareKeyExpr id) names = names
heard_body to (body.DeclareQueryable id w info) names = names
heard_body to (body.UndeclareQueryable id w) names = names
heard_body to body.DeclareFinal names = names

-- what a declaration says to a face with these numbers
abbrev pub body_says : FaceNaming → DeclareBody → Option TellingBody
body_says n (body.DeclareKeyExpr id w) = None
body_says n (body.UndeclareKeyExpr id) = None
body_says n (body.DeclareQueryable id w info) = Some (key_told id (full_text (read_by n w)) info)
body_says n (body.UndeclareQueryable id None) = Some (key_ended id None)
body_says n (body.UndeclareQueryable id (Some w)) = Some (key_ended id (Some (full_text (read_by n w))))
body_says n body.DeclareFinal = Some all_told

-- the same, with its face, interest and node
abbrev pub telling_by : FaceId → Declare → Option TellingBody → List Telling
telling_by to d None = []
telling_by to d (Some b) = record { to = to; interest = d.interest; node = d.node; body = b } ∷ []

-- a message is heard, and then those behind it
abbrev pub hear_by : FaceId → Message → NamingState → (NamingState → List Telling) → List Telling
hear_by to (message.Declare d) names next = telling_by to d (body_says (face_naming to.0 names) d.body) ++ next (heard_body to d.body names)
hear_by to (message.Request r) names next = next names
hear_by to (message.Response r) names next = next names
hear_by to (message.ResponseFinal f) names next = next names
hear_by to (message.Interest i) names next = next names
hear_by to (message.InterestFinal i) names next = next names

-- what messages say to their receivers, one after another
abbrev pub hear : List Handed → NamingState → List Telling
hear [] names = []
hear (h ∷ hs) names = hear_by h.to h.message names (hear hs)

-- the text is not empty
abbrev pub has_text : List ℕ → Bool
has_text [] = false
has_text (b ∷ text) = true

-- what is told of a key is told of a text
abbrev pub tells_text : TellingBody → Bool
tells_text (key_told id text info) = has_text text
tells_text (key_ended id None) = true
tells_text (key_ended id (Some text)) = has_text text
tells_text all_told = true

-- the face is open, and a key that it is told is no empty text
abbrev pub CanBeTold : NamingState → Telling → Type 0
CanBeTold names t = (is_some (naming_at t.to.0 names) ≡ true) × (tells_text t.body ≡ true)
