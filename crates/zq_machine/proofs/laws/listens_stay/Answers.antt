use Rattle.zq_machine.proofs.DueLess.{listens_stay}
use Rattle.zq_machine.proofs.laws.listens_stay.Goals as goal

pub returns : goal.returns
returns c = listens_stay
