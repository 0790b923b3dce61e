use Rattle.zq_machine.proofs.DueAlone.{region_unheard}
use Rattle.zq_machine.proofs.laws.region_unheard.Goals as goal

pub returns : goal.returns
returns c = region_unheard
