use Rattle.zq_machine.proofs.DueAlone.{own_unheard}
use Rattle.zq_machine.proofs.laws.own_unheard.Goals as goal

pub returns : goal.returns
returns c = own_unheard
