use Rattle.zq_machine.proofs.AskingMore.{asks_more}
use Rattle.zq_machine.proofs.interest_laws.asks_more.Goals as goal

pub returns : goal.returns
returns c = asks_more
