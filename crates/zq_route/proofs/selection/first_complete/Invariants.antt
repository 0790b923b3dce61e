use Rattle.std.proofs.Common.{◌≡◌, drop, find, filter}
use Rattle.zq_route.specs.Selection.{is_complete}
use Rattle.zq_route.proofs.selection.first_complete.Given as goal

abbrev pub ghost-is_best : goal.ghost-is_best
ghost-is_best g a = g.test

abbrev pub invariant-loop-i : goal.invariant-loop-i
invariant-loop-i g l = find is_complete (filter g.test (drop l.i l.offers)) ≡ find is_complete (filter g.test l.offers)
