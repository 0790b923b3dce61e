use Rattle.std.proofs.Common.{◌≡◌, fold, None}
use Rattle.zq_message.specs.Region.{region_index}
use Rattle.zq_dispatcher.specs.Own.{with_other_as}
use Rattle.zq_dispatcher.proofs.entries.own_entry_as.Given as goal

abbrev pub invariant-loop-other : goal.invariant-loop-other
invariant-loop-other l = record {
  can : (goal.iterator-loop-other).can_next l.other-iterator;
  ends : (goal.iterator-loop-other).is_finite l.other-iterator;
  rest : fold (with_other_as l.new (region_index l.region) l.key) l.merged l.other-iterator ≡ fold (with_other_as l.new (region_index l.region) l.key) None l.hats;
}
