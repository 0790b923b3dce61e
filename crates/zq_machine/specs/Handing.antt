-- A message as it is handed, and what leaves of it.
use Rattle.std.specs.Prelude.{ℕ, Option, Some, None}
use Rattle.zq_message.specs.declared.message.FaceId.{FaceId}
use Rattle.zq_message.specs.declared.message.Message.{Message}
use Rattle.zq_machine.specs.declared.handed.Leaves.{Leaves}
use Rattle.zq_machine.specs.declared.handed.Leaves.TheVariants as exit

-- a message that is given to a face's exit, with the numbers of its request and of its reply, and what leaves
pub record Handed : Type 0 where
  pub to : FaceId
  pub number : Option ℕ
  pub reply : Option ℕ
  pub message : Message
  pub leaves : Option Message

-- what leaves of a message
abbrev pub left : Message → Leaves → Option Message
left m exit.Same = Some m
left m (exit.Other other) = Some other.value
left m exit.Nothing = None
