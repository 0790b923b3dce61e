use Rattle.zq_machine.proofs.Agreed.{agree_always}
use Rattle.zq_machine.proofs.laws.agree_always.Goals as goal

pub returns : goal.returns
returns c = agree_always
