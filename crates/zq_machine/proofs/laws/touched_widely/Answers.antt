use Rattle.zq_machine.proofs.DueWhole.{touched_widely}
use Rattle.zq_machine.proofs.laws.touched_widely.Goals as goal

pub returns : goal.returns
returns c = touched_widely
