-- Which strategy a region has.
use Rattle.std.specs.Prelude.{Bool, true, false, ◌&&◌, ◌==◌}
use Rattle.zq_message.specs.declared.message.Bound.{Bound}
use Rattle.zq_message.specs.declared.message.Bound.TheVariants as bound
use Rattle.zq_message.specs.declared.message.Region.{Region}
use Rattle.zq_message.specs.declared.message.Region.TheVariants as region
use Rattle.zq_message.specs.declared.message.Mode.{Mode}
use Rattle.zq_message.specs.declared.message.Mode.TheVariants as mode
use Rattle.zq_strategy.specs.declared.types.Strategy.{Strategy}
use Rattle.zq_strategy.specs.declared.types.Strategy.TheVariants as strategy
use Rattle.zq_strategy.specs.State.{HatState}

-- the strategy of a mode, where that of clients is given
abbrev pub by_mode : Mode → Strategy → Strategy
by_mode mode.Router c = strategy.Router
by_mode mode.Peer c = strategy.Peer
by_mode mode.Client c = c

-- North has the strategy of its mode, Local is a broker, and South is a broker for clients
abbrev pub strategy_of : Region → Mode → Strategy
strategy_of region.North north = by_mode north strategy.Client
strategy_of region.Local north = strategy.Broker
strategy_of (region.South id m) north = by_mode m strategy.Broker

-- the strategy of a hat
abbrev pub strategy_at : HatState → Strategy
strategy_at s = strategy_of s.region s.north_mode

-- what goes in a region of routers, or else what goes in any other
abbrev pub in_routers : {X : Type 0} → Strategy → X → X → X
in_routers strategy.Broker routed other = other
in_routers strategy.Client routed other = other
in_routers strategy.Peer routed other = other
in_routers strategy.Router routed other = routed

-- whether the region has one face towards the upstream at most
abbrev pub is_upstream : Strategy → Bool
is_upstream strategy.Broker = false
is_upstream strategy.Client = true
is_upstream strategy.Peer = false
is_upstream strategy.Router = false

-- whether a region is north-bound
abbrev pub is_north : Region → Bool
is_north region.North = true
is_north region.Local = false
is_north (region.South id m) = false

-- whether a remote is south-bound
abbrev pub is_south : Bound → Bool
is_south bound.North = false
is_south bound.South = true

-- the same mode
abbrev pub same_mode : Mode → Mode → Bool
same_mode mode.Router mode.Router = true
same_mode mode.Peer mode.Peer = true
same_mode mode.Client mode.Client = true
same_mode a b = false

-- the same region
abbrev pub same_region : Region → Region → Bool
same_region region.North region.North = true
same_region region.Local region.Local = true
same_region (region.South id m) (region.South jd n) = (id == jd) && same_mode m n
same_region a b = false
