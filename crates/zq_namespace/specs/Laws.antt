-- What follows of what leaves: it stays within what was handed, a denied key does not leave, and an end follows what it ends.
use Rattle.std.specs.Prelude.{◌≡◌, ℕ, true, false, List, Option, Some, None, is_some, IfSome, IsSomeAnd, Contains}
use Rattle.std.specs.Option.{option_and_then}
use Rattle.zq_key.specs.Key.{includes, is_key, is_plain}
use Rattle.zq_key.specs.Space.{behind}
use Rattle.zq_message.specs.declared.message.WireExpr.{WireExpr}
use Rattle.zq_message.specs.declared.message.QueryableInfoType.{QueryableInfoType}
use Rattle.zq_message.specs.declared.message.Request.{Request}
use Rattle.zq_message.specs.declared.message.Interest.{Interest}
use Rattle.zq_message.specs.declared.message.Declare.{Declare}
use Rattle.zq_message.specs.declared.message.DeclareBody.{DeclareBody}
use Rattle.zq_message.specs.declared.message.DeclareBody.TheVariants as declare
use Rattle.zq_message.specs.declared.message.Message.{Message}
use Rattle.zq_message.specs.declared.message.Message.TheVariants as message
use Rattle.zq_namespace.specs.Exit.{Heads, full_text}
use Rattle.zq_namespace.specs.Leaves.{ExitState, after_leaving, declare_with, has, leaves}

-- the expression of a declaration, if it has one
abbrev pub body_expr : DeclareBody → Option WireExpr
body_expr (declare.DeclareKeyExpr id w) = Some w
body_expr (declare.UndeclareKeyExpr id) = None
body_expr (declare.DeclareQueryable id w info) = Some w
body_expr (declare.UndeclareQueryable id w) = w
body_expr declare.DeclareFinal = None

-- the expression of a message, if it has one
abbrev pub expr_of : Message → Option WireExpr
expr_of (message.Interest i) = i.wire
expr_of (message.InterestFinal id) = None
expr_of (message.Declare d) = body_expr d.body
expr_of (message.Request r) = Some r.wire
expr_of (message.Response r) = Some r.wire
expr_of (message.ResponseFinal f) = None

-- the whole text that a message says, where the exit knows it
abbrev pub text_of : Heads → Message → Option (List ℕ)
text_of heads m = option_and_then (full_text heads) (expr_of m)

-- an expression says a key, without a number, that behind the namespace is within the text; if the text is plain it is the same
pub record IsWithin (n text : List ℕ) (w : WireExpr) : Type 0 where
  pub number : w.scope ≡ 0
  pub key : is_key w.suffix ≡ true
  pub within : includes text (behind n w.suffix) ≡ true
  pub whole : is_plain text ≡ true → text ≡ behind n w.suffix

-- of a message whose text the exit knows, where that is a key, what leaves says a part of the key that is under the namespace
abbrev pub StaysWithin : ExitState → Message → Option Message → Type 0
StaysWithin s m left = (text : List ℕ) → text_of s.heads m ≡ Some text → is_key text ≡ true → IfSome left (λ v. IsSomeAnd (expr_of v) (IsWithin s.ns text))

-- each exit of a plain namespace keeps to it
abbrev pub LeavesWithin : Type 0
LeavesWithin = (s : ExitState) (m : Message) → is_plain s.ns ≡ true → StaysWithin s m (leaves s m)

-- nothing leaves of a request on a key that a key of the list includes
abbrev pub StaysIn : List (List ℕ) → List ℕ → Message → Option Message → Type 0
StaysIn denied key m left = (k : List ℕ) (r : Request) → m ≡ message.Request r → Contains denied k → includes k key ≡ true → left ≡ None

-- where the number or the id of a message was not kept before, what ends the message leaves exactly if the message did, and then nothing of it is kept
abbrev pub Follows : Message → Message → Type 0
Follows m end = (s : ExitState) → has s m ≡ false → (is_some (leaves (after_leaving s m) end) ≡ is_some (leaves s m)) × (after_leaving (after_leaving s m) end ≡ s)

-- so it is with numbers of keys, with queryables and with interests
pub record EndsFollow : Type 0 where
  pub keys : (d e : Declare) (id : ℕ) (w : WireExpr) → Follows (declare_with d (declare.DeclareKeyExpr id w)) (declare_with e (declare.UndeclareKeyExpr id))
  pub queryables : (d e : Declare) (id : ℕ) (w : WireExpr) (info : QueryableInfoType) → Follows (declare_with d (declare.DeclareQueryable id w info)) (declare_with e (declare.UndeclareQueryable id None))
  pub interests : (i : Interest) → Follows (message.Interest i) (message.InterestFinal i.id)
