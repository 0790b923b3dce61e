use Rattle.zq_told.proofs.Calls.{call_keeps_up}
use Rattle.zq_told.proofs.laws.call_keeps_up.Goals as goal

pub returns : goal.returns
returns c = call_keeps_up
