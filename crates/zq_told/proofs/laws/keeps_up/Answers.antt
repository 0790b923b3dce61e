use Rattle.zq_told.proofs.Settling.{keeps_up}
use Rattle.zq_told.proofs.laws.keeps_up.Goals as goal

pub returns : goal.returns
returns c = keeps_up
