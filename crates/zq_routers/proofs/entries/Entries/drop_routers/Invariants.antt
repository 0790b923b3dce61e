use Rattle.std.proofs.Common.{◌≡◌, fold, take}
use Rattle.zq_strategy.specs.Entries.{without_router}
use Rattle.zq_routers.proofs.entries.Entries.drop_routers.Given as goal

abbrev pub invariant-loop-router : goal.invariant-loop-router
invariant-loop-router l = l.self ≡ fold without_router l.initial.self (take l.router-index l.routers)
