-- The gateway's own entries, as they are or as a change of one region would make them.
use Rattle.std.specs.Prelude.{ℕ, ◌==◌, Bool, not, ◌&&◌, List, [], fold, Option, Some, None, if◌then◌else◌}
use Rattle.std.specs.List.{list_any}
use Rattle.zq_message.specs.declared.message.QueryableInfoType.{QueryableInfoType}
use Rattle.zq_message.specs.declared.message.Region.{Region}
use Rattle.zq_strategy.specs.declared.network.Telling.{Telling as TreeTelling}
use Rattle.zq_message.specs.Region.{region_index}
use Rattle.zq_index.specs.Infos.{joined}
use Rattle.zq_strategy.specs.declared.types.Change.{Change}
use Rattle.zq_strategy.specs.Changes.{changed_by}
use Rattle.zq_strategy.specs.Kept.{region_info}
use Rattle.zq_strategy.specs.Regions.{in_routers, strategy_at}
use Rattle.zq_strategy.specs.State.{HatState}
use Rattle.zq_strategy.specs.Trees.{own_told}
use Rattle.zq_machine.specs.State.{change_hat, is_routing}
use Rattle.zq_machine.specs.Trees.{own_entry, own_told_on}
use Rattle.zq_dispatcher.specs.declared.entries.NewInfo.{NewInfo}

-- a region's information on a key; a region that is said to have another has that
abbrev pub info_as : Option NewInfo → List ℕ → ℕ × HatState → Option QueryableInfoType
info_as None key h = region_info key h.1
info_as (Some new) key h = if h.0 == region_index new.region then new.info else region_info key h.1

-- it is merged in, if the region is not at the place
abbrev pub with_other_as : Option NewInfo → ℕ → List ℕ → Option QueryableInfoType → ℕ × HatState → Option QueryableInfoType
with_other_as new place key m h = if h.0 == place then m else joined m (info_as new key h)

-- the own entry on a key in the region at the place
abbrev pub own_entry_as : Option NewInfo → ℕ → List ℕ → List (ℕ × HatState) → Option QueryableInfoType
own_entry_as new place key hats = fold (with_other_as new place key) None hats

-- what the own entry on a key hands in a region, if it is one of routers, when a region gets another information
abbrev pub told_as : NewInfo → List (ℕ × HatState) → List ℕ → ℕ × HatState → List TreeTelling
told_as new hats key h =
    if h.0 == region_index new.region then []
    else in_routers (strategy_at h.1) (own_told key (own_entry h.0 key hats) (own_entry_as (Some new) h.0 key hats) h.1) []

-- a region of routers at another place
abbrev pub is_other_routing : ℕ → ℕ × HatState → Bool
is_other_routing place h = not (h.0 == place) && is_routing h.1

-- whether there is one
abbrev pub has_other_routing : ℕ → List (ℕ × HatState) → Bool
has_other_routing place hats = list_any (is_other_routing place) hats

-- what own entries on a key hand, where a region changes
abbrev pub change_told : List (ℕ × HatState) → Region → Change → List ℕ → List TreeTelling
change_told hats changed change key = own_told_on hats (change_hat changed (changed_by change key) hats) key
