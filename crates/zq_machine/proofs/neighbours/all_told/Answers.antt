use Rattle.zq_machine.proofs.NeighbourLaws.{all_told}
use Rattle.zq_machine.proofs.neighbours.all_told.Goals as goal

pub returns : goal.returns
returns c = all_told
