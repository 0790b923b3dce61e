-- A call that nothing refuses says the key of what it declares or withdraws.
use Rattle.std.proofs.Common.{◌≡◌, Bool, true, false, cond, not, Some, None}
use Rattle.zq_tables.specs.declared.resolved.Resolved.{Resolved}
use Rattle.zq_tables.specs.declared.resolved.Resolved.TheVariants as said
use Rattle.zq_machine.specs.Deciding.{refusal_of}
use Rattle.zq_machine.specs.State.{Core, is_open}
use Rattle.zq_machine.specs.TextCalls.{TextCall, declaring, announcing, retracting, hearing}

-- what cannot be: a call is accepted whose second or third cause holds
pub second_holds : {X : Type 0} (a : Bool) (x y : X) → cond a (Some x) (Some y) ≡ None → ⊥
second_holds true x y e = cc
second_holds false x y e = cc

pub third_holds : {X : Type 0} (a b : Bool) (x y z : X) → cond a (Some x) (cond b (Some y) (Some z)) ≡ None → ⊥
third_holds true b x y z e = cc
third_holds false b x y z e = second_holds b y z e

-- the expression says a text
abbrev pub IsText : Resolved → Type 0
IsText said.Unscoped = ⊥
IsText said.Empty = ⊥
IsText (said.Full text) = Unit {0}

-- the call has a text where it declares or withdraws by one
abbrev pub HasText : TextCall → Type 0
HasText (declaring face id s info node) = IsText s
HasText (announcing face s info node) = IsText s
HasText (retracting face s node) = IsText s
HasText (hearing face id keys None) = Unit {0}
HasText (hearing face id keys (Some s)) = IsText s
HasText t = Unit {0}

pub has_text : (c : Core) (t : TextCall) → refusal_of c t ≡ None → HasText t
has_text c (declaring face id said.Unscoped info node) e = absurd (second_holds (not (is_open face.0 c)) _ _ e)
has_text c (declaring face id said.Empty info node) e = absurd (second_holds (not (is_open face.0 c)) _ _ e)
has_text c (declaring face id (said.Full text) info node) e = tt
has_text c (announcing face said.Unscoped info node) e = absurd (second_holds (not (is_open face.0 c)) _ _ e)
has_text c (announcing face said.Empty info node) e = absurd (second_holds (not (is_open face.0 c)) _ _ e)
has_text c (announcing face (said.Full text) info node) e = tt
has_text c (retracting face said.Unscoped node) e = absurd (second_holds (not (is_open face.0 c)) _ _ e)
has_text c (retracting face said.Empty node) e = absurd (second_holds (not (is_open face.0 c)) _ _ e)
has_text c (retracting face (said.Full text) node) e = tt
has_text c (hearing face id keys None) e = tt
has_text c (hearing face id keys (Some said.Unscoped)) e = absurd (second_holds (not (is_open face.0 c)) _ _ e)
has_text c (hearing face id keys (Some said.Empty)) e = absurd (second_holds (not (is_open face.0 c)) _ _ e)
has_text c (hearing face id keys (Some (said.Full text))) e = tt
has_text c t e = tt
