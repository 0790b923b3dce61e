-- A change of a router's entry on a key, as a call.
use Rattle.std.specs.Prelude.{ℕ, Option, Some, None}
use Rattle.zq_message.specs.declared.message.FaceId.{FaceId}
use Rattle.zq_message.specs.declared.message.QueryableInfoType.{QueryableInfoType}
use Rattle.zq_tables.specs.declared.resolved.Resolved.{Resolved}
use Rattle.zq_machine.specs.TextCalls.{TextCall, announcing, retracting}

-- the call by which a router's entry has this information, or goes
abbrev pub entering : FaceId → Resolved → Option QueryableInfoType → ℕ → TextCall
entering face s (Some i) node = announcing face s i node
entering face s None node = retracting face s node
