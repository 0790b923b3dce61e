use Rattle.zq_told.proofs.Leaving.{stays_in_order}
use Rattle.zq_told.proofs.laws.stays_in_order.Goals as goal

pub returns : goal.returns
returns c = stays_in_order
