use Rattle.std.proofs.Common.{◌≡◌, ◌++◌}
use Rattle.zq_strategy.specs.Entries.{unlisted_of}
use Rattle.zq_routers.proofs.router_keys.unlisted.Given as goal

abbrev pub invariant-loop-router : goal.invariant-loop-router
invariant-loop-router l = l.ids ++ unlisted_of l.net l.router-iterator ≡ unlisted_of l.net l.routers.entries
