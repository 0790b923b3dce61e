use Rattle.std.proofs.Common.{◌≡◌, fold}
use Rattle.zq_dispatcher.specs.Listeners.{with_unasked}
use Rattle.zq_dispatcher.proofs.listeners.put_unasked.Given as goal

abbrev pub invariant-loop-hat : goal.invariant-loop-hat
invariant-loop-hat l = record {
  can : (goal.iterator-loop-hat).can_next l.hat-iterator;
  ends : (goal.iterator-loop-hat).is_finite l.hat-iterator;
  rest : fold with_unasked l.found.keys l.hat-iterator ≡ fold with_unasked l.initial.found.keys l.hats;
}
