use Rattle.zq_told.proofs.Differing.{tells_difference}
use Rattle.zq_told.proofs.laws.tells_difference.Goals as goal

pub returns : goal.returns
returns c = tells_difference
