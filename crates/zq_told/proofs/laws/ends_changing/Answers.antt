use Rattle.zq_told.proofs.Leaving.{ends_changing}
use Rattle.zq_told.proofs.laws.ends_changing.Goals as goal

pub returns : goal.returns
returns c = ends_changing
