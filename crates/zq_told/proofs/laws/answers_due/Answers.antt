use Rattle.zq_told.proofs.Leaving.{answers_due}
use Rattle.zq_told.proofs.laws.answers_due.Goals as goal

pub returns : goal.returns
returns c = answers_due
