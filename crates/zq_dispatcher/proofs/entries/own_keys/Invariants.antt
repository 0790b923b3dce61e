use Rattle.std.proofs.Common.{◌≡◌, [], fold, map}
use Rattle.std.specs.Prelude.{string_bytes}
use Rattle.zq_message.specs.Region.{region_index}
use Rattle.zq_machine.specs.Trees.{with_other_keys}
use Rattle.zq_dispatcher.proofs.entries.own_keys.Given as goal

abbrev pub invariant-loop-other : goal.invariant-loop-other
invariant-loop-other l = record {
  can : (goal.iterator-loop-other).can_next l.other-iterator;
  ends : (goal.iterator-loop-other).is_finite l.other-iterator;
  rest : fold (with_other_keys (region_index l.region)) (map string_bytes l.keys.keys) l.other-iterator ≡ fold (with_other_keys (region_index l.region)) [] l.hats;
}
