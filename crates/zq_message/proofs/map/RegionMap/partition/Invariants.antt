use Rattle.std.proofs.Common.{◌≡◌, map}
use Rattle.std.specs.Map.Iter.{deref_pair}
use Rattle.zq_message.specs.RegionMap.{shown, without}
use Rattle.zq_message.proofs.map.RegionMap.partition.Given as goal

abbrev pub invariant-loop-i : goal.invariant-loop-i
invariant-loop-i g l = map shown l.entries.entries ≡ without (map deref_pair l.yielded) l.fn.r
