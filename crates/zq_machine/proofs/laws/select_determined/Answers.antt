use Rattle.zq_machine.proofs.Determined.{runs_select}
use Rattle.zq_machine.proofs.laws.select_determined.Goals as goal

pub returns : goal.returns
returns c = runs_select
