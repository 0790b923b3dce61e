use Rattle.std.proofs.Common.{◌≡◌, ◌++◌, map}
use Rattle.std.specs.Map.{values_of}
use Rattle.zq_machine.specs.Selecting.{offers_to}
use Rattle.zq_egress.specs.Askers.{asker_of}
use Rattle.zq_egress.proofs.select.Asker.offers_by_region.Given as goal

abbrev pub invariant-loop-hat : goal.invariant-loop-hat
invariant-loop-hat l = record {
  can : (goal.iterator-loop-hat).can_next l.hat-iterator;
  ends : (goal.iterator-loop-hat).is_finite l.hat-iterator;
  rest : l.offered.items ++ map (offers_to (asker_of l.self) l.key) l.hat-iterator ≡ map (offers_to (asker_of l.self) l.key) (values_of l.hats);
}
