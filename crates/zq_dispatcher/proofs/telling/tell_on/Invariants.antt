use Rattle.std.proofs.Common.{◌≡◌, ◌++◌}
use Rattle.std.specs.List.{flat_map}
use Rattle.zq_dispatcher.specs.Own.{told_as}
use Rattle.zq_dispatcher.proofs.telling.tell_on.Given as goal

abbrev pub invariant-loop-region : goal.invariant-loop-region
invariant-loop-region l = record {
  can : (goal.iterator-loop-region).can_next l.region-iterator;
  ends : (goal.iterator-loop-region).is_finite l.region-iterator;
  rest : l.told ++ flat_map (told_as l.new l.hats l.key) l.region-iterator ≡ l.fn.told ++ flat_map (told_as l.new l.hats l.key) l.hats;
}
