use Rattle.zq_told.proofs.Faces.{closes}
use Rattle.zq_told.proofs.laws.closes.Goals as goal

pub returns : goal.returns
returns c = closes
