use Rattle.zq_machine.proofs.NeighbourMoved.{due_alike}
use Rattle.zq_machine.proofs.laws.due_alike.Goals as goal

pub returns : goal.returns
returns c = due_alike
