use Rattle.zq_machine.proofs.DueTaken.{north_listens}
use Rattle.zq_machine.proofs.laws.north_listens.Goals as goal

pub returns : goal.returns
returns c = north_listens
