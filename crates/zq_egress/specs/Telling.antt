-- The messages of what a hat tells, in answer to an interest or to none, and how the numbers that they declare are taken back.
use Rattle.std.specs.Prelude.{◌≡◌, ℕ, ◌==◌, Bool, ◌&&◌, ◌||◌, not, length, List, [], ◌∷◌, ◌++◌, Option, Some, None, is_none}
use Rattle.zq_message.specs.declared.message.Declare.{Declare}
use Rattle.zq_message.specs.declared.message.DeclareBody.{DeclareBody}
use Rattle.zq_message.specs.declared.message.DeclareBody.TheVariants as body
use Rattle.zq_message.specs.declared.message.FaceId.{FaceId}
use Rattle.zq_message.specs.declared.message.Mapping.TheVariants as mapping
use Rattle.zq_message.specs.declared.message.Message.{Message}
use Rattle.zq_message.specs.declared.message.Message.TheVariants as message
use Rattle.zq_message.specs.declared.message.QueryableInfoType.{QueryableInfoType}
use Rattle.zq_message.specs.declared.message.WireExpr.{WireExpr}
use Rattle.zq_strategy.specs.declared.types.Telling.{Telling}
use Rattle.zq_interests.specs.Interests.{Interests, has_keyed}
use Rattle.zq_tables.specs.Naming.{NamingState, change_naming, plain, without_sent}
use Rattle.zq_machine.specs.Handing.{Handed}
use Rattle.zq_machine.specs.Messages.{Telling as Resolved, answered_by, from_hat}
use Rattle.zq_machine.specs.Writing.{Told}
use Rattle.zq_egress.specs.declared.tell.InterestId.{InterestId}

-- ---- who wants numbers, and who is answered

-- of faces and keys it says what the interests say: which faces want numbers for which keys
abbrev pub KeyedAs : (ℕ → List ℕ → Bool) → Interests → Type 0
KeyedAs keyed ints = (face : ℕ) (key : List ℕ) → keyed face key ≡ has_keyed face key ints

-- a face may be declared a number for the part of a key: its region takes numbers, or the part is not empty and an interest wants it
abbrev pub asked_number : Bool → List ℕ → Bool → Bool
asked_number takes part wanted = takes || (not (length part == 0) && wanted)

-- the id of the interest, if there is one
abbrev pub mark_of : Option InterestId → Option ℕ
mark_of None = None
mark_of (Some i) = Some i.id

-- what a hat tells is told in answer to the interest of that id, if of one
abbrev pub marked_by : Option ℕ → Telling → Resolved
marked_by mark t = record (from_hat t) { interest = mark }

-- it is told in answer to the interest, if there is one
abbrev pub told_to : Option InterestId → List Resolved → List Resolved
told_to None ts = ts
told_to (Some i) ts = answered_by i.face i.id ts

-- ---- messages

-- a key is declared by an expression under an id, or its end is
abbrev pub body_of : ℕ → WireExpr → Option QueryableInfoType → DeclareBody
body_of id w None = body.UndeclareQueryable id (Some w)
body_of id w (Some info) = body.DeclareQueryable id w info

-- what a hat tells, by an expression of its key, in answer to the interest of that id, if of one
abbrev pub declare_of : Option ℕ → Telling → WireExpr → Declare
declare_of mark t w = record { interest = mark; node = t.node; body = body_of t.id w t.info }

-- a hat tells that an id other than 0 ended, which it says by the id alone
abbrev pub ends_alone : Telling → Bool
ends_alone t = is_none t.info && not (t.id == 0)

-- the end of its id, with no expression
abbrev pub end_of : Option ℕ → Telling → Declare
end_of mark t = record { interest = mark; node = t.node; body = body.UndeclareQueryable t.id None }

-- a number is declared for a text
abbrev pub number_of : ℕ → List ℕ → Declare
number_of id text = record { interest = None; node = 0; body = body.DeclareKeyExpr id (plain text) }

-- a declaration as it is handed; all of it leaves
abbrev pub handed_declare : FaceId → Declare → Handed
handed_declare to d = record { to = to; number = None; reply = None; message = message.Declare d; leaves = Some (message.Declare d) }

-- the message of a number that has to be declared, if there is one
abbrev pub handed_number : FaceId → List ℕ → Option ℕ → List Handed
handed_number to text None = []
handed_number to text (Some id) = handed_declare to (number_of id text) ∷ []

-- all that the interest asked for was told
abbrev pub final_of : ℕ → Declare
final_of id = record { interest = Some id; node = 0; body = body.DeclareFinal }

-- the message of that, if an interest is answered
abbrev pub handed_final : Option InterestId → List Handed
handed_final None = []
handed_final (Some i) = handed_declare i.face (final_of i.id) ∷ []

-- what is told, behind messages that come first
abbrev pub behind : List Handed → Told → Told
behind first w = record { handed = first ++ w.handed; names = w.names }

-- ---- numbers are taken back

-- the number that a declaration declares is taken back from its receiver
abbrev pub untold_body : FaceId → DeclareBody → NamingState → NamingState
untold_body to (body.DeclareKeyExpr id w) names = change_naming to.0 (without_sent mapping.Receiver id) names
untold_body to (body.UndeclareKeyExpr id) names = names
untold_body to (body.DeclareQueryable id w info) names = names
untold_body to (body.UndeclareQueryable id w) names = names
untold_body to body.DeclareFinal names = names

-- the same of a message
abbrev pub untold_message : FaceId → Message → NamingState → NamingState
untold_message to (message.Declare d) names = untold_body to d.body names
untold_message to (message.Request r) names = names
untold_message to (message.Response r) names = names
untold_message to (message.ResponseFinal f) names = names
untold_message to (message.Interest i) names = names
untold_message to (message.InterestFinal i) names = names

-- the numbers that messages declare are taken back, the last one first
abbrev pub untold : List Handed → NamingState → NamingState
untold [] names = names
untold (h ∷ hs) names = untold_message h.to h.message (untold hs names)
