use Rattle.zq_machine.proofs.DueInterests.{keys_rise}
use Rattle.zq_machine.proofs.laws.keys_ordered.Goals as goal

pub returns : goal.returns
returns c = keys_rise
