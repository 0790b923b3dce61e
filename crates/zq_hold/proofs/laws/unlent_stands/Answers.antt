use Rattle.zq_hold.proofs.Follows.{unlent_stands}
use Rattle.zq_hold.proofs.laws.unlent_stands.Goals as goal

pub returns : goal.returns
returns c = unlent_stands
