use Rattle.std.proofs.Common.{◌≡◌, false, take}
use Rattle.std.specs.List.{list_any}
use Rattle.zq_hat.specs.Status.{matches}
use Rattle.zq_hat.proofs.status.regions_match.Given as goal

abbrev pub invariant-loop-declared : goal.invariant-loop-declared
invariant-loop-declared l = list_any (matches l.key l.complete) (take l.declared-index l.others) ≡ false
