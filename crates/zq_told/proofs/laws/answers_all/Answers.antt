use Rattle.zq_told.proofs.Leaving.{answers_all}
use Rattle.zq_told.proofs.laws.answers_all.Goals as goal

pub returns : goal.returns
returns c = answers_all
