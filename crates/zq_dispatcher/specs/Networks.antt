-- What a network hands in a region, by own entries.
use Rattle.std.specs.Prelude.{List, []}
use Rattle.zq_strategy.specs.declared.network.Network.{Network}
use Rattle.zq_strategy.specs.declared.network.Telling.{Telling as TreeTelling}
use Rattle.zq_strategy.specs.Networks.{Standing}
use Rattle.zq_strategy.specs.Regions.{in_routers, strategy_at}
use Rattle.zq_strategy.specs.Routers.{networked}
use Rattle.zq_strategy.specs.State.{HatState}
use Rattle.zq_strategy.specs.Trees.{network_told}

-- what the children of trees are told by a network in a region of routers, by the own entries there
abbrev pub hands : Standing → HatState → Network → List TreeTelling
hands own h net = in_routers (strategy_at h) (network_told own h.network (networked net h)) []
