use Rattle.std.proofs.Common.{◌≡◌, [], fold, take}
use Rattle.zq_machine.specs.State.{with_hat}
use Rattle.zq_dispatcher.proofs.hats.first_hats.Given as goal

abbrev pub invariant-loop-entry : goal.invariant-loop-entry
invariant-loop-entry l = l.hats ≡ fold (with_hat l.config) [] (take l.entry-index l.entry-items)
