use Rattle.std.proofs.Common.{◌≡◌, drop}
use Rattle.std.specs.Prelude.{find, filter}
use Rattle.zq_egress.specs.Askers.{asker_of}
use Rattle.zq_machine.specs.Selecting.{passes}
use Rattle.zq_route.specs.Selection.{is_complete}
use Rattle.zq_kept.proofs.pick.first_complete.Given as goal

abbrev pub invariant-loop-i : goal.invariant-loop-i
invariant-loop-i l = find is_complete (filter (passes (asker_of l.asker)) (drop l.i l.offers)) ≡ find is_complete (filter (passes (asker_of l.asker)) l.offers)
