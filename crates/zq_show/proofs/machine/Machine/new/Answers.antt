use Rattle.zq_show.specs.Replay.{begun}
use Rattle.zq_show.proofs.machine.Machine.new.Goals as goal

pub returns : goal.returns
unfolding begun
returns c = c.in_ok-new.ensures.opening
