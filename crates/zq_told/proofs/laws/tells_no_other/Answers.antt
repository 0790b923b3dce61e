use Rattle.zq_told.proofs.Meant.{tells_no_other}
use Rattle.zq_told.proofs.laws.tells_no_other.Goals as goal

pub returns : goal.returns
returns c = tells_no_other
