use Rattle.zq_machine.proofs.DueInterests.{ends_less, ends_same}
use Rattle.zq_machine.proofs.laws.ends_less.Goals as goal

pub returns-clause-none : goal.returns-clause-none
returns-clause-none c = ends_less

pub returns-clause-same : goal.returns-clause-same
returns-clause-same c = ends_same
