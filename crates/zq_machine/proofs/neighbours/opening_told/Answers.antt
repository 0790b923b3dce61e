use Rattle.zq_machine.proofs.NeighbourLaws.{new_told}
use Rattle.zq_machine.proofs.neighbours.opening_told.Goals as goal

pub returns : goal.returns
returns c = new_told
