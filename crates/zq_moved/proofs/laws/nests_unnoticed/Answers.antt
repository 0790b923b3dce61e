use Rattle.zq_moved.proofs.laws.nests_unnoticed.Goals as goal
use Rattle.zq_moved.proofs.Nested.{nests_unnoticed}

pub returns : goal.returns
returns c = nests_unnoticed
