use Rattle.zq_machine.proofs.DueTaken.{asking_listens}
use Rattle.zq_machine.proofs.laws.asking_listens.Goals as goal

pub returns : goal.returns
returns c = asking_listens
