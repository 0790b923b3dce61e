use Rattle.zq_moved.proofs.laws.moves_unnoticed.Goals as goal
use Rattle.zq_moved.proofs.Runs.{moves_unnoticed}

pub returns : goal.returns
returns c = moves_unnoticed
