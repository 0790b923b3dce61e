use Rattle.std.proofs.Common.{◌≡◌, ◌-◌, take}
use Rattle.zq_query.specs.Tables.{filled, AreAbsent}
use Rattle.zq_query.proofs.queries.ask.empty.Given as goal

abbrev pub invariant-loop-step : goal.invariant-loop-step
invariant-loop-step l = (es : _) (v : _) → AreAbsent es v l.places → l.fn.pending.entries ≡ filled es (take l.count l.places) v → l.pending.entries ≡ filled es (take (l.count - l.step) l.places) v
