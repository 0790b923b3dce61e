use Rattle.std.proofs.Common.{◌≡◌, [], fold}
use Rattle.std.specs.Map.{values_of}
use Rattle.zq_egress.specs.Askers.{asker_of}
use Rattle.zq_show.specs.Reasons.{with_hat}
use Rattle.zq_show.proofs.reasons.missed_in.Given as goal

abbrev pub invariant-loop-hat : goal.invariant-loop-hat
invariant-loop-hat l = record {
  can : (goal.iterator-loop-hat).can_next l.hat-iterator;
  ends : (goal.iterator-loop-hat).is_finite l.hat-iterator;
  rest : fold (with_hat l.asked.seen.now.owned l.panel (asker_of l.asked.asker) l.key) l.missed l.hat-iterator ≡ fold (with_hat l.asked.seen.now.owned l.panel (asker_of l.asked.asker) l.key) [] (values_of l.hats);
}
