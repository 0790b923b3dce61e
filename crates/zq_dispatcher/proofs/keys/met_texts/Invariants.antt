use Rattle.std.proofs.Common.{◌≡◌, [], fold, map}
use Rattle.std.specs.Prelude.{string_bytes}
use Rattle.std.specs.Option.{option_copied}
use Rattle.zq_interests.specs.Interests.{meets}
use Rattle.zq_dispatcher.specs.Dues.{AreKeys}
use Rattle.zq_dispatcher.proofs.KeysMet.{with_met}
use Rattle.zq_dispatcher.proofs.keys.met_texts.Given as goal

abbrev pub invariant-loop-hat : goal.invariant-loop-hat
invariant-loop-hat l = record {
  can : (goal.iterator-loop-hat).can_next l.hat-iterator;
  ends : (goal.iterator-loop-hat).is_finite l.hat-iterator;
  rest : fold (with_met (meets (option_copied l.asked))) (map string_bytes l.keys.keys) l.hat-iterator ≡ fold (with_met (meets (option_copied l.asked))) [] l.hats;
  valid : AreKeys (map string_bytes l.keys.keys);
}
