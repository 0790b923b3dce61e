-- What leaves to a face, by its exit's namespace and deny list alone: said of what is handed, and not of how it is let out. Of an expression with a number whose text the exit does not keep nothing is said: it is read by what the number stands for, which need not be under the namespace.
use Rattle.std.specs.Prelude.{◌≡◌, ℕ, ◌<◌, true, List, [], ◌∷◌, Option, Some, None, IfSome, IsSomeAnd, length}
use Rattle.std.specs.Option.{option_map}
use Rattle.zq_key.specs.Key.{is_key}
use Rattle.zq_key.specs.Space.{behind}
use Rattle.zq_message.specs.declared.message.Declare.{Declare}
use Rattle.zq_message.specs.declared.message.DeclareBody.{DeclareBody}
use Rattle.zq_message.specs.declared.message.DeclareBody.TheVariants as body
use Rattle.zq_message.specs.declared.message.Message.{Message}
use Rattle.zq_message.specs.declared.message.Message.TheVariants as message
use Rattle.zq_message.specs.declared.message.Request.{Request}
use Rattle.zq_message.specs.declared.message.ResponseFinal.{ResponseFinal}
use Rattle.zq_message.specs.declared.message.WireExpr.{WireExpr}
use Rattle.zq_namespace.specs.Exit.{full_text}
use Rattle.zq_namespace.specs.Laws.{StaysIn, StaysWithin, expr_of}
use Rattle.zq_namespace.specs.Leaves.{ExitState}
use Rattle.zq_machine.specs.Behind.{Bars}
use Rattle.zq_machine.specs.Gates.{Gate, Gates, gate_at, with_given}
use Rattle.zq_machine.specs.Handing.{Handed}

-- a declaration with another expression, if it has one
abbrev pub body_with : WireExpr → DeclareBody → DeclareBody
body_with w (body.DeclareKeyExpr id x) = body.DeclareKeyExpr id w
body_with w (body.UndeclareKeyExpr id) = body.UndeclareKeyExpr id
body_with w (body.DeclareQueryable id x info) = body.DeclareQueryable id w info
body_with w (body.UndeclareQueryable id x) = body.UndeclareQueryable id (option_map (λ (y : WireExpr). w) x)
body_with w body.DeclareFinal = body.DeclareFinal

-- a message with another expression, if it has one
abbrev pub message_with : WireExpr → Message → Message
message_with w (message.Request r) = message.Request (record r { wire = w })
message_with w (message.Response r) = message.Response (record r { wire = w })
message_with w (message.ResponseFinal f) = message.ResponseFinal f
message_with w (message.Interest i) = message.Interest (record i { wire = option_map (λ (y : WireExpr). w) i.wire })
message_with w (message.InterestFinal id) = message.InterestFinal id
message_with w (message.Declare d) = message.Declare (record d { body = body_with w d.body })

-- one message is the other with an expression of its own, and the same in all else
abbrev pub IsRewritten : Message → Message → Type 0
IsRewritten m v = (w : WireExpr) × (v ≡ message_with w m)

-- of a message whose text the exit knows, where that is a key, what leaves says a part of the key that is under the namespace, if there is one
abbrev pub IsInSpace : Option ExitState → Message → Option Message → Type 0
IsInSpace None m left = Unit {0}
IsInSpace (Some e) m left = StaysWithin e m left

-- a message on a key under the namespace leaves, and says the key without the namespace (by a number, where a suffix stands with it); where there is no namespace it leaves as it is
abbrev pub LetsOut : Option ExitState → Message → Option Message → Type 0
LetsOut None m left = left ≡ Some m
LetsOut (Some e) m left = (k : List ℕ) (w : WireExpr) → expr_of m ≡ Some w → 0 < length w.suffix → full_text e.heads w ≡ Some (behind e.ns k) → is_key k ≡ true → IsSomeAnd left (λ v. expr_of v ≡ Some (record w { scope = 0; suffix = k }))

-- what leaves by a gate is the message but for its expression, which stays within the namespace; nothing leaves of a request on a key that a denied one includes; what says a key under the namespace leaves without it, where no denied key includes it; and finals and the end of declarations leave as they are
pub record StaysBehind (g : Gate) (text : List ℕ) (m : Message) (left : Option Message) : Type 0 where
  pub within : IsInSpace g.exit.space m left
  pub denied : StaysIn g.exit.exit text m left
  pub lets : ((r : Request) → m ≡ message.Request r → Bars g.exit.exit text → ⊥) → LetsOut g.exit.space m left
  pub rest : IfSome left (IsRewritten m)
  pub finals : (f : ResponseFinal) → m ≡ message.ResponseFinal f → left ≡ Some m
  pub ends : (d : Declare) → m ≡ message.Declare d → d.body ≡ body.DeclareFinal → left ≡ Some m

-- what leaves of a message at a face is as its gate has it; without a gate all leaves
abbrev pub StaysAt : Option Gate → List ℕ → Message → Option Message → Type 0
StaysAt None text m left = left ≡ Some m
StaysAt (Some g) text m left = StaysBehind g text m left

-- so it is of messages, one after another, by what the gates keep of those before
abbrev pub AllStay : List ℕ → List Handed → Gates → Type 0
AllStay text [] gates = Unit {0}
AllStay text (h ∷ hs) gates = StaysAt (gate_at h.to.0 gates) text h.message h.leaves × AllStay text hs (with_given h gates)
