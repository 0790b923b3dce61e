use Rattle.std.proofs.Common.{◌≡◌, [], fold, map}
use Rattle.zq_hat.specs.Joining.{with_part}
use Rattle.zq_hat.specs.Sourced.{queriers_part}
use Rattle.zq_hat.proofs.queriers.all_queriers.Given as goal

abbrev pub invariant-loop-hat : goal.invariant-loop-hat
invariant-loop-hat l = record {
  can : (goal.iterator-loop-hat).can_next l.hat-iterator;
  ends : (goal.iterator-loop-hat).is_finite l.hat-iterator;
  rest : fold with_part l.all (map (queriers_part l.interests) l.hat-iterator) ≡ fold with_part [] (map (queriers_part l.interests) l.hats);
}
