use Rattle.zq_machine.proofs.DueWhole.{routers_undue}
use Rattle.zq_machine.proofs.laws.routers_undue.Goals as goal

pub returns : goal.returns
returns c = routers_undue
