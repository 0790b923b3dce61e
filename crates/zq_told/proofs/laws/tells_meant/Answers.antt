use Rattle.zq_told.proofs.Meant.{tells_meant}
use Rattle.zq_told.proofs.laws.tells_meant.Goals as goal

pub returns : goal.returns
returns c = tells_meant
