use Rattle.zq_told.proofs.Numbers.{ids_are_given}
use Rattle.zq_told.proofs.laws.ids_are_given.Goals as goal

pub returns : goal.returns
returns c = ids_are_given
