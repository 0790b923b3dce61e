use Rattle.std.proofs.Common.{◌≡◌, fold, take, []}
use Rattle.std.specs.BTreeSet.{insert_key}
use Rattle.zq_strategy.specs.Tellings.{telling_cmp}
use Rattle.zq_routers.proofs.tellings.in_order.Given as goal

abbrev pub invariant-loop-telling : goal.invariant-loop-telling
invariant-loop-telling l = l.ordered ≡ fold (insert_key telling_cmp) [] (take l.telling-index l.tellings)
