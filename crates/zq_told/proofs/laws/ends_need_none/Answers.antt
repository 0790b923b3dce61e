use Rattle.zq_told.proofs.Leaving.{never_lacks}
use Rattle.zq_told.proofs.laws.ends_need_none.Goals as goal

pub returns : goal.returns
returns c = never_lacks
