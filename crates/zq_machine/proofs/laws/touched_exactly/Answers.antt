use Rattle.zq_machine.proofs.DueEnds.{touched_exactly}
use Rattle.zq_machine.proofs.laws.touched_exactly.Goals as goal

pub returns : goal.returns
returns c = touched_exactly
