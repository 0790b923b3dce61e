use Rattle.std.proofs.Common.{◌≡◌, take}
use Rattle.zq_query.specs.Polling.{timing_out}
use Rattle.zq_query.proofs.queries.Queries.put_timeouts.Given as goal

abbrev pub invariant-loop-i : goal.invariant-loop-i
invariant-loop-i l = l.self ≡ timing_out (take l.i l.timeouts) l.fn.self
