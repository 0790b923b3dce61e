use Rattle.zq_machine.proofs.DueWhole.{none_missed}
use Rattle.zq_machine.proofs.laws.none_missed.Goals as goal

pub returns : goal.returns
returns c = none_missed
