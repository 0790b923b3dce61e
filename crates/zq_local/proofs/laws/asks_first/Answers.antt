use Rattle.zq_local.proofs.laws.asks_first.Goals as goal
use Rattle.zq_local.proofs.Promised.{asks_first}

pub returns : goal.returns
returns c = asks_first
