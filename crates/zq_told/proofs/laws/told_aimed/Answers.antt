use Rattle.zq_told.proofs.Leaving.{told_aimed}
use Rattle.zq_told.proofs.laws.told_aimed.Goals as goal

pub returns : goal.returns
returns c = told_aimed
