use Rattle.std.proofs.Common.{◌≡◌}
use Rattle.zq_message.specs.RegionMap.{made_of}
use Rattle.zq_message.proofs.map.RegionMap.from_entries.Given as goal

abbrev pub invariant-loop-r : goal.invariant-loop-r
invariant-loop-r g l = l.made ≡ made_of l.yielded
