use Rattle.zq_machine.proofs.DueInterests.{asks_less, asks_stay}
use Rattle.zq_machine.proofs.laws.asks_stay.Goals as goal

pub returns-clause-met : goal.returns-clause-met
returns-clause-met c = asks_stay

pub returns-clause-asked : goal.returns-clause-asked
returns-clause-asked c = asks_less
