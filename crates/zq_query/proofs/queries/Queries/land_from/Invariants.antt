use Rattle.std.proofs.Common.{◌≡◌, ◌+◌, ◌-◌}
use Rattle.zq_query.specs.Polling.{landing_from}
use Rattle.zq_query.proofs.queries.Queries.land_from.Given as goal

abbrev pub invariant-loop-step : goal.invariant-loop-step
invariant-loop-step l = l.self ≡ record l.fn.self { records = landing_from (l.fn.first + (l.count - l.step)) l.step l.fn.self.records }
