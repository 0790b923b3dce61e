use Rattle.std.proofs.Common.{◌≡◌, drop, fold, map}
use Rattle.std.specs.Prelude.{option_copied}
use Rattle.std.specs.List.{filter}
use Rattle.zq_egress.specs.Askers.{asker_of}
use Rattle.zq_machine.specs.Selecting.{passes}
use Rattle.zq_route.specs.Selection.{is_complete, joined, nearer, nearest}
use Rattle.zq_kept.specs.Picked.{lists_of}
use Rattle.zq_kept.proofs.pick.nearest_in.Given as goal

abbrev pub invariant-loop-list : goal.invariant-loop-list
invariant-loop-list l = fold nearer (option_copied l.found) (filter is_complete (joined (map (filter (passes (asker_of l.asker))) (lists_of (drop l.list-index l.lists))))) ≡ nearest (filter is_complete (joined (map (filter (passes (asker_of l.asker))) (lists_of l.lists))))
