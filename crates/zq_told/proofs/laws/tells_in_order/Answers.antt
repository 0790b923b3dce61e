use Rattle.zq_told.proofs.Ordered.{tells_in_order}
use Rattle.zq_told.proofs.laws.tells_in_order.Goals as goal

pub returns : goal.returns
returns c = tells_in_order
