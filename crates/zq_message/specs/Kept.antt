-- A value with one owner or with several.
use Rattle.std.specs.Prelude.{Bool, true, false}
use Rattle.std.specs.Arc.{arc_value}
use Rattle.zq_message.specs.declared.kept.Kept.{Kept}
use Rattle.zq_message.specs.declared.kept.Kept.TheVariants.{Own, Shared}

-- the value, whoever else has it
abbrev pub kept_value : {T : Type 0} → Kept T → T
kept_value (Own value) = value
kept_value (Shared value) = arc_value value

-- whether it may have several owners
abbrev pub is_shared : {T : Type 0} → Kept T → Bool
is_shared (Own value) = false
is_shared (Shared value) = true
