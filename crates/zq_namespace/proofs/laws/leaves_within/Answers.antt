use Rattle.zq_namespace.proofs.Within.{leaves-within}
use Rattle.zq_namespace.proofs.laws.leaves_within.Goals as goal

pub returns : goal.returns
returns c = leaves-within
