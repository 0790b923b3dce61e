use Rattle.zq_namespace.proofs.Following.{ends-follow}
use Rattle.zq_namespace.proofs.laws.ends_follow.Goals as goal

pub returns : goal.returns
returns c = ends-follow
