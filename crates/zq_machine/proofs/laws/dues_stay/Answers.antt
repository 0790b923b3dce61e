use Rattle.zq_machine.proofs.DueWhole.{dues_stay}
use Rattle.zq_machine.proofs.laws.dues_stay.Goals as goal

pub returns : goal.returns
returns c = dues_stay
