use Rattle.std.proofs.Common.{◌≡◌, ◌++◌}
use Rattle.std.specs.Map.{values_of}
use Rattle.zq_route.specs.Selection.{joined}
use Rattle.zq_route.proofs.overall.copies_of_all.Given as goal

abbrev pub invariant-loop-part : goal.invariant-loop-part
invariant-loop-part l = record {
  can : (goal.iterator-loop-part).can_next l.part-iterator;
  ends : (goal.iterator-loop-part).is_finite l.part-iterator;
  rest : l.copies ++ joined l.part-iterator ≡ joined (values_of l.offers);
}
