use Rattle.zq_machine.proofs.DueInterests.{ends_stay}
use Rattle.zq_machine.proofs.laws.ends_stay.Goals as goal

pub returns : goal.returns
returns c = ends_stay
