use Rattle.zq_told.proofs.Leaving.{lacks_exactly}
use Rattle.zq_told.proofs.laws.lacks_exactly.Goals as goal

pub returns : goal.returns
returns c = lacks_exactly
