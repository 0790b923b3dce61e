use Rattle.zq_machine.proofs.NeighbourTold.{told_due}
use Rattle.zq_machine.proofs.neighbours.told_due.Goals as goal

pub returns : goal.returns
returns c = told_due
