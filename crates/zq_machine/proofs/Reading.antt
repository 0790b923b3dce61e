-- What holds of both readings of a call holds of it as it is read.
use Rattle.std.proofs.Common.{ℕ, Bool, true, false, cond, Option}
use Rattle.zq_message.specs.declared.message.FaceId.{FaceId}
use Rattle.zq_message.specs.declared.message.QueryableInfoType.{QueryableInfoType}
use Rattle.zq_message.specs.declared.message.WireExpr.{WireExpr}
use Rattle.zq_machine.specs.declared.call.Call.TheVariants as call
use Rattle.zq_machine.specs.State.{State}
use Rattle.zq_machine.specs.TextCalls.{TextCall, announcing, by_router, declaring, read, retracting, said, said_or_none, withdrawing}

either : (P : TextCall → Type 0) (b : Bool) (x y : TextCall) → P x → P y → P (cond b x y)
either P true x y p q = p
either P false x y p q = q

pub declare_read : (P : TextCall → Type 0) (s : State) (face : FaceId) (id : ℕ) (wire : WireExpr) (info : QueryableInfoType) (node : ℕ)
    → P (announcing face (said face wire s) info node) → P (declaring face id (said face wire s) info node) → P (read s (call.DeclareQueryable face id wire info node))
declare_read P s face id wire info node p q = either P (by_router face s.core) (announcing face (said face wire s) info node) (declaring face id (said face wire s) info node) p q

pub withdraw_read : (P : TextCall → Type 0) (s : State) (face : FaceId) (id : ℕ) (wire : Option WireExpr) (node : ℕ)
    → P (retracting face (said_or_none face wire s) node) → P (withdrawing face id) → P (read s (call.UndeclareQueryable face id wire node))
withdraw_read P s face id wire node p q = either P (by_router face s.core) (retracting face (said_or_none face wire s) node) (withdrawing face id) p q
