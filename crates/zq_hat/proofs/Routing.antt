-- What a region has on a key, by its strategy.
use Rattle.std.proofs.Common.{◌≡◌, refl}
use Rattle.zq_strategy.specs.declared.types.Strategy.{Strategy}
use Rattle.zq_strategy.specs.declared.types.Strategy.TheVariants as strategy
use Rattle.zq_strategy.specs.Regions.{in_routers}

pub same_either : {X : Type 0} (k : Strategy) (x : X) → in_routers k x x ≡ x
same_either strategy.Broker x = refl
same_either strategy.Client x = refl
same_either strategy.Peer x = refl
same_either strategy.Router x = refl
