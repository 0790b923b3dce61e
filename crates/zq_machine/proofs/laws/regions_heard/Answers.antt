use Rattle.zq_machine.proofs.DueTaken.{regions_heard}
use Rattle.zq_machine.proofs.laws.regions_heard.Goals as goal

pub returns : goal.returns
returns c = regions_heard
