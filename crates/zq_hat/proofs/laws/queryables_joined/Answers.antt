use Rattle.zq_hat.proofs.Regions.{queryables_joined}
use Rattle.zq_hat.proofs.laws.queryables_joined.Goals as goal

pub returns : goal.returns
returns c = queryables_joined
