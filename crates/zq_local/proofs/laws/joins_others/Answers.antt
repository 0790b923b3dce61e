use Rattle.zq_local.proofs.laws.joins_others.Goals as goal
use Rattle.zq_local.proofs.Promised.{joins_others}

pub returns : goal.returns
returns c = joins_others
