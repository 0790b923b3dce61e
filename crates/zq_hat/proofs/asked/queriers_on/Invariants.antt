use Rattle.std.proofs.Common.{◌≡◌, [], fold, map}
use Rattle.zq_hat.specs.Asked.{queriers_part_on}
use Rattle.zq_hat.specs.Joining.{with_part}
use Rattle.zq_hat.proofs.asked.queriers_on.Given as goal

abbrev pub invariant-loop-hat : goal.invariant-loop-hat
invariant-loop-hat l = record {
  can : (goal.iterator-loop-hat).can_next l.hat-iterator;
  ends : (goal.iterator-loop-hat).is_finite l.hat-iterator;
  rest : fold with_part l.all (map (queriers_part_on l.asked l.interests) l.hat-iterator) ≡ fold with_part [] (map (queriers_part_on l.asked l.interests) l.hats);
}
