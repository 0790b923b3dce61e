use Rattle.std.proofs.Common.{◌≡◌, ◌++◌}
use Rattle.zq_strategy.specs.Seating.{seated}
use Rattle.zq_hat.specs.Unreached.{unreached_on}
use Rattle.zq_hat.proofs.unreached.Ways.push_unreached.Given as goal

abbrev pub invariant-loop-router : goal.invariant-loop-router
invariant-loop-router l =
    l.found.items ++ unreached_on l.self.net.now (λ zid. seated zid l.self.seats.now) l.self.source (l.key, l.router-iterator)
    ≡ l.initial.found.items ++ unreached_on l.self.net.now (λ zid. seated zid l.self.seats.now) l.self.source (l.key, l.infos.entries)
