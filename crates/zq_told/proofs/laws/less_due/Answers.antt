use Rattle.zq_told.proofs.Faces.{less_due}
use Rattle.zq_told.proofs.laws.less_due.Goals as goal

pub returns : goal.returns
returns c = less_due
