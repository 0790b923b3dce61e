use Rattle.std.proofs.Common.{take}
use Rattle.zq_strategy.specs.Nets.{IsPlaced}
use Rattle.zq_strategy.proofs.nets.places_in.Given as goal

abbrev pub invariant-loop-i : goal.invariant-loop-i
invariant-loop-i l = IsPlaced (take l.i l.nodes) l.places.entries
