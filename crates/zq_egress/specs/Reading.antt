-- What an expression says, and what refuses it where a key is wanted.
use Rattle.std.specs.Prelude.{not, [], ◌∷◌, Option, Some, None}
use Rattle.zq_tables.specs.declared.resolved.Resolved.{Resolved}
use Rattle.zq_machine.specs.declared.call.Refusal.{Refusal}
use Rattle.zq_machine.specs.declared.call.Refusal.TheVariants as refusal
use Rattle.zq_machine.specs.Deciding.{first_of}
use Rattle.zq_machine.specs.Selecting.{is_unscoped, says_key}

-- what may refuse a call for the key that it says
abbrev pub key_refusal : Resolved → Option Refusal
key_refusal s = first_of ((is_unscoped s, refusal.UnknownScope) ∷ (not (says_key s), refusal.InvalidKeyExpr) ∷ [])
