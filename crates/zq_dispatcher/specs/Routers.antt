-- A change of a router's entry on a key.
use Rattle.std.specs.Prelude.{ℕ, Bool, false, List, Option, Some, None, if◌then◌else◌}
use Rattle.std.specs.Option.{option_and_then, option_map_or}
use Rattle.zq_message.specs.declared.message.Region.{Region}
use Rattle.zq_message.specs.declared.message.QueryableInfoType.{QueryableInfoType}
use Rattle.zq_message.specs.declared.message.Zid.{Zid}
use Rattle.zq_strategy.specs.Nets.{is_zid}
use Rattle.zq_strategy.specs.declared.types.Change.{Change}
use Rattle.zq_strategy.specs.declared.types.Change.TheVariants as change
use Rattle.zq_strategy.specs.Routers.{announced, retracted}
use Rattle.zq_strategy.specs.State.{HatState}
use Rattle.zq_machine.specs.State.{has_entries, hat_at}

-- what an entry that is this one, or goes, changes
abbrev pub entry_change : Zid → Option QueryableInfoType → Change
entry_change router (Some i) = change.Announced router i
entry_change router None = change.Retracted router

-- the hat after it
abbrev pub entered : Zid → List ℕ → Option QueryableInfoType → HatState → HatState
entered router key (Some i) h = announced router.0 key i h
entered router key None h = retracted router.0 key h

-- a router that is not the gateway itself
abbrev pub other_router : Zid → Option Zid → Option Zid
other_router own router = option_and_then (λ (z : Zid). if is_zid own z then None else Some z) router

-- routers of the region have an entry on the key
abbrev pub has_entries_in : Region → List ℕ → List (ℕ × HatState) → Bool
has_entries_in region key hats = option_map_or (has_entries key) (hat_at region hats) false
