use Rattle.zq_told.proofs.Moved.{tells_alike}
use Rattle.zq_told.proofs.laws.tells_alike.Goals as goal

pub returns : goal.returns
returns c = tells_alike
