-- When a gateway is to be told next that a moment has come.
use Rattle.std.specs.Prelude.{◌≡◌, ℕ, true, false, List, Option, Some, None}
use Rattle.zq_query.specs.Records.{Record, has_deadline, has_earlier, owes_any}

-- the moment is the least deadline of what open requests wait for, and there is none exactly where they wait for nothing
abbrev pub IsNextDeadline : List Record → Option ℕ → Type 0
IsNextDeadline rs None = owes_any rs ≡ false
IsNextDeadline rs (Some d) = (has_deadline d rs ≡ true) × (has_earlier d rs ≡ false)
