use Rattle.zq_told.proofs.Faces.{opens}
use Rattle.zq_told.proofs.laws.opens.Goals as goal

pub returns : goal.returns
returns c = opens
