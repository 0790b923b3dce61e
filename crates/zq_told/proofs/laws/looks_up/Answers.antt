use Rattle.zq_told.proofs.Differing.{looks_up}
use Rattle.zq_told.proofs.laws.looks_up.Goals as goal

pub returns : goal.returns
returns c = looks_up
