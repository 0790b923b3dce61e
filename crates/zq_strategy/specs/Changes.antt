-- What a call may change of what a region has on a key.
use Rattle.std.specs.Prelude.{ℕ, List, Option}
use Rattle.std.specs.Option.{option_map_or}
use Rattle.zq_strategy.specs.declared.types.Change.{Change}
use Rattle.zq_strategy.specs.declared.types.Change.TheVariants as change
use Rattle.zq_strategy.specs.Kept.{change_face, declare, unregistered, without_face}
use Rattle.zq_strategy.specs.Routers.{announced, networked, retracted}
use Rattle.zq_strategy.specs.State.{HatState}

-- the hat after the change, on the key
abbrev pub changed_by : Change → List ℕ → HatState → HatState
changed_by (change.Declared face id i) key s = change_face face.0 (declare id key i) s
changed_by (change.Withdrawn face id) key s = unregistered face.0 id s
changed_by (change.Left face) key s = without_face face.0 s
changed_by (change.Announced router i) key s = announced router.0 key i s
changed_by (change.Retracted router) key s = retracted router.0 key s
changed_by (change.Networked net) key s = networked net s

-- the same, if there is a change
abbrev pub changed_if : Option Change → List ℕ → HatState → HatState
changed_if change key s = option_map_or (λ c. changed_by c key s) change s
