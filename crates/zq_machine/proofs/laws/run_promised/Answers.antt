use Rattle.zq_machine.proofs.Kept.{headline}
use Rattle.zq_machine.proofs.laws.run_promised.Goals as goal

pub returns : goal.returns
returns c = headline
