use Rattle.zq_moved.proofs.laws.moves_twice.Goals as goal
use Rattle.zq_moved.proofs.Nested.{moves_twice}

pub returns : goal.returns
returns c = moves_twice
