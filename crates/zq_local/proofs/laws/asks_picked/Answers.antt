use Rattle.zq_local.proofs.laws.asks_picked.Goals as goal
use Rattle.zq_local.proofs.Promised.{asks_picked}

pub returns : goal.returns
returns c = asks_picked
