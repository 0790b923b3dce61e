use Rattle.std.proofs.Common.{◌≡◌, [], fold, take}
use Rattle.zq_show.specs.Lanes.{with_about}
use Rattle.zq_show.proofs.lanes.abouts.Given as goal

abbrev pub invariant-loop-entry : goal.invariant-loop-entry
invariant-loop-entry l = l.abouts.entries ≡ fold with_about [] (take l.entry-index l.entries)
