-- What refuses an interest for the key that it asks for, and what it looks at.
use Rattle.std.specs.Prelude.{ℕ, List, Option, Some, None}
use Rattle.std.specs.Option.{option_map}
use Rattle.zq_message.specs.declared.message.FaceId.{FaceId}
use Rattle.zq_interests.specs.declared.types.InterestEntry.{InterestEntry}
use Rattle.zq_tables.specs.declared.resolved.Resolved.{Resolved}
use Rattle.zq_tables.specs.declared.resolved.Resolved.TheVariants as said
use Rattle.zq_told.specs.declared.types.FaceUpdate.{FaceUpdate}
use Rattle.zq_machine.specs.declared.call.Refusal.{Refusal}
use Rattle.zq_machine.specs.Deciding.{accepted}
use Rattle.zq_machine.specs.Neighbours.{asked_at}
use Rattle.zq_machine.specs.Selecting.{Manner, asked_by}
use Rattle.zq_machine.specs.State.{Core}
use Rattle.zq_machine.specs.TextCalls.{hearing}
use Rattle.zq_egress.specs.Reading.{key_refusal}

-- what may refuse it for the key that its expression says, if it has one
abbrev pub asking_refusal : Option Resolved → Option Refusal
asking_refusal None = None
asking_refusal (Some s) = key_refusal s

-- what says the key, if there is one
abbrev pub said_key : Option (List ℕ) → Option Resolved
said_key key = option_map (λ k. said.Full k) key

-- what says the key of an interest, if it has one
abbrev pub said_by : InterestEntry → Option Resolved
said_by e = said_key e.key

-- how an interest asks
abbrev pub manner_of : InterestEntry → Manner
manner_of e = record { keys = e.keys; aggregate = e.aggregate }

-- what an interest looks at
abbrev pub interest_looks : Core → FaceId → ℕ → Manner → Option Resolved → List FaceUpdate
interest_looks c face id m sd = asked_at (accepted c (hearing face id m sd)) (accepted c (hearing face id m sd)).interests face.0 (asked_by m sd)
