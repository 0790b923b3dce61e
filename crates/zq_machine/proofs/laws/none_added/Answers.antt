use Rattle.zq_machine.proofs.DueTaken.{none_added}
use Rattle.zq_machine.proofs.laws.none_added.Goals as goal

pub returns : goal.returns
returns c = none_added
