-- A hat after a change of a router's entry.
use Rattle.std.proofs.Common.{◌≡◌, refl, ℕ, List, Option, Some, None}
use Rattle.zq_message.specs.declared.message.QueryableInfoType.{QueryableInfoType}
use Rattle.zq_message.specs.declared.message.Zid.{Zid}
use Rattle.zq_strategy.specs.Changes.{changed_by}
use Rattle.zq_dispatcher.specs.Routers.{entered, entry_change}

pub changed_is : (router : Zid) (key : List ℕ) (info : Option QueryableInfoType) → changed_by (entry_change router info) key ≡ entered router key info
changed_is router key None = refl
changed_is router key (Some i) = refl
