use Rattle.std.proofs.Common.{◌≡◌, ◌++◌}
use Rattle.std.specs.List.{flat_map}
use Rattle.std.specs.Map.{values_of}
use Rattle.zq_egress.specs.Askers.{asker_of}
use Rattle.zq_show.specs.Reasons.{reaching}
use Rattle.zq_show.proofs.reasons.all_reaching.Given as goal

abbrev pub invariant-loop-hat : goal.invariant-loop-hat
invariant-loop-hat l = record {
  can : (goal.iterator-loop-hat).can_next l.hat-iterator;
  ends : (goal.iterator-loop-hat).is_finite l.hat-iterator;
  rest : l.all ++ flat_map (reaching l.panel (asker_of l.asker) l.key) l.hat-iterator ≡ flat_map (reaching l.panel (asker_of l.asker) l.key) (values_of l.hats);
}
