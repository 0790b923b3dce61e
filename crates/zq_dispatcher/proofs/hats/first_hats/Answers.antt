use Rattle.std.proofs.Common.{[], arith}
use Rattle.zq_dispatcher.proofs.Valid.{regions_fit}
use Rattle.zq_dispatcher.proofs.hats.first_hats.Goals as goal

pub add_hat-requires : goal.add_hat-requires
add_hat-requires c = regions_fit [] c.entries-entry-items.result.now c.entries-entry-items.ensures.valid c.loop-entry.entry-index _ (omega arith)
