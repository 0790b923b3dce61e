use Rattle.zq_hat.proofs.Regions.{queriers_joined}
use Rattle.zq_hat.proofs.laws.queriers_joined.Goals as goal

pub returns : goal.returns
returns c = queriers_joined
