use Rattle.zq_machine.proofs.NeighbourLaws.{face_told}
use Rattle.zq_machine.proofs.neighbours.call_told.Goals as goal

pub returns : goal.returns
returns c = face_told
