use Rattle.std.proofs.Common.{◌≡◌, fold}
use Rattle.zq_hat.specs.Listings.{with_listing}
use Rattle.zq_hat.specs.Sourced.{routed_by}
use Rattle.zq_hat.proofs.queryables.add_routers.Given as goal

abbrev pub invariant-loop-router : goal.invariant-loop-router
invariant-loop-router l = fold with_listing l.all (routed_by l.own (l.key, l.router-iterator)) ≡ fold with_listing l.initial.all (routed_by l.own (l.key, l.routed.entries))
