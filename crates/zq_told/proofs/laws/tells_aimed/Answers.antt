use Rattle.zq_told.proofs.Faces.{tells_aimed}
use Rattle.zq_told.proofs.laws.tells_aimed.Goals as goal

pub returns : goal.returns
returns c = tells_aimed
