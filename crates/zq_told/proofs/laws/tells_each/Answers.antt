use Rattle.zq_told.proofs.Differing.{tells_each}
use Rattle.zq_told.proofs.laws.tells_each.Goals as goal

pub returns : goal.returns
returns c = tells_each
