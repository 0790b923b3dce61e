use Rattle.zq_machine.proofs.DueTaken.{fellows_heard}
use Rattle.zq_machine.proofs.laws.fellows_heard.Goals as goal

pub returns : goal.returns
returns c = fellows_heard
