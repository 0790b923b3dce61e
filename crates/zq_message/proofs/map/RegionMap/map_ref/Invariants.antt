use Rattle.std.proofs.Common.{map}
use Rattle.std.specs.Fn.{FnReturnsAt}
use Rattle.std.specs.Map.Iter.{deref_pair}
use Rattle.zq_message.specs.RegionMap.{MapsEach}
use Rattle.zq_message.proofs.map.RegionMap.map_ref.Given as goal

abbrev pub invariant-loop-i : goal.invariant-loop-i
invariant-loop-i g l = goal.F-IsAlwaysCallable g l.f × MapsEach (FnReturnsAt g.F.Fn l.fn.f) (map deref_pair l.yielded) l.entries.entries
