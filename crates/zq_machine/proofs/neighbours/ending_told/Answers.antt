use Rattle.zq_machine.proofs.NeighbourLaws.{ending_keeps}
use Rattle.zq_machine.proofs.neighbours.ending_told.Goals as goal

pub returns : goal.returns
returns c = ending_keeps
