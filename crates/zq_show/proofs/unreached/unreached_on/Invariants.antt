use Rattle.std.proofs.Common.{◌≡◌, ◌++◌}
use Rattle.std.specs.List.{flat_map}
use Rattle.std.specs.Map.{values_of}
use Rattle.zq_egress.specs.Askers.{asker_of}
use Rattle.zq_machine.specs.Selecting.{full_text}
use Rattle.zq_show.specs.Unreached.{unreached_in}
use Rattle.zq_show.proofs.unreached.unreached_on.Given as goal

abbrev pub invariant-loop-hat : goal.invariant-loop-hat
invariant-loop-hat l = record {
  can : (goal.iterator-loop-hat).can_next l.hat-iterator;
  ends : (goal.iterator-loop-hat).is_finite l.hat-iterator;
  rest : l.all ++ flat_map (unreached_in (asker_of l.asker) (full_text l.said)) l.hat-iterator ≡ flat_map (unreached_in (asker_of l.asker) (full_text l.said)) (values_of l.hats);
}
