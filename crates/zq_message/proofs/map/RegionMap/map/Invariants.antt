use Rattle.zq_message.specs.RegionMap.{MapsEach}
use Rattle.zq_message.proofs.map.RegionMap.map.Given as goal

abbrev pub invariant-loop-i : goal.invariant-loop-i
invariant-loop-i g l = goal.F-IsAlwaysCallable g l.f × MapsEach (goal.F-post g l.fn.f) l.yielded l.entries.entries
