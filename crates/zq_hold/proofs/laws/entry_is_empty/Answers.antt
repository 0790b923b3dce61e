use Rattle.zq_hold.proofs.Follows.{entry_is_empty}
use Rattle.zq_hold.proofs.laws.entry_is_empty.Goals as goal

pub returns : goal.returns
returns c = entry_is_empty
