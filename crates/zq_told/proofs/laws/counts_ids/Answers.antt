use Rattle.zq_told.proofs.Differing.{counts_ids}
use Rattle.zq_told.proofs.laws.counts_ids.Goals as goal

pub returns : goal.returns
returns c = counts_ids
