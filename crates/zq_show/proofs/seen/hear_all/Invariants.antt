use Rattle.std.proofs.Common.{◌≡◌, fold, take}
use Rattle.zq_show.specs.Seen.{with_told}
use Rattle.zq_show.proofs.seen.hear_all.Given as goal

abbrev pub invariant-loop-message : goal.invariant-loop-message
invariant-loop-message l = l.names ≡ fold with_told l.fn.names (take l.message-index l.handed)
