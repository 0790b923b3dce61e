use Rattle.zq_machine.proofs.DueWhole.{less_due}
use Rattle.zq_machine.proofs.laws.less_due.Goals as goal

pub returns : goal.returns
returns c = less_due
