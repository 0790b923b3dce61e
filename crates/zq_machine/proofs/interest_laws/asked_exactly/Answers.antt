use Rattle.zq_machine.proofs.AskingMore.{asked_exactly}
use Rattle.zq_machine.proofs.interest_laws.asked_exactly.Goals as goal

pub returns : goal.returns
returns c = asked_exactly
