use Rattle.zq_machine.proofs.NeighbourLaws.{asking_keeps}
use Rattle.zq_machine.proofs.neighbours.asking_told.Goals as goal

pub returns : goal.returns
returns c = asking_keeps
