use Rattle.zq_hold.proofs.Follows.{step_settles, cut_settles, join_settles}
use Rattle.zq_hold.proofs.laws.counts_settle.Goals as goal

pub returns-clause-step : goal.returns-clause-step
returns-clause-step c = step_settles

pub returns-clause-cut : goal.returns-clause-cut
returns-clause-cut c = cut_settles

pub returns-clause-join : goal.returns-clause-join
returns-clause-join c = join_settles
