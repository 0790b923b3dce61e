-- Whether a region's hat has a face.
use Rattle.std.specs.Prelude.{ℕ, Bool, List, Option}
use Rattle.std.specs.Option.{option_map}
use Rattle.zq_message.specs.declared.message.Region.{Region}
use Rattle.zq_strategy.specs.State.{HatState}
use Rattle.zq_strategy.specs.Kept.{has_face}
use Rattle.zq_machine.specs.State.{hat_at}

-- whether the region's hat has the face, if the region has a hat
abbrev pub seats : Region → ℕ → List (ℕ × HatState) → Option Bool
seats r face hats = option_map (has_face face) (hat_at r hats)
