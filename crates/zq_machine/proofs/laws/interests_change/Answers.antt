use Rattle.zq_machine.proofs.DueEnds.{interests_change}
use Rattle.zq_machine.proofs.laws.interests_change.Goals as goal

pub returns : goal.returns
returns c = interests_change
