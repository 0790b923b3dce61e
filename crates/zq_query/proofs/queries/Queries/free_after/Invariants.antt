use Rattle.std.proofs.Common.{◌≡◌, ◌-◌, ◌^◌}
use Rattle.zq_query.specs.Records.{first_free}
use Rattle.zq_query.proofs.queries.Queries.free_after.Given as goal

abbrev pub invariant-loop-step : goal.invariant-loop-step
invariant-loop-step l = first_free l.fn.face.0 l.fn.self.records l.fn.last (2 ^ 32) ≡ first_free l.fn.face.0 l.fn.self.records l.id (2 ^ 32 - l._step)
