use Rattle.zq_hold.proofs.Follows.{keeper_leaves_none, keeper_leaves_zero, keeper_steps}
use Rattle.zq_hold.proofs.laws.keeper_step_counts.Goals as goal

pub returns-clause-last : goal.returns-clause-last
returns-clause-last c = keeper_leaves_zero

pub returns-clause-none : goal.returns-clause-none
returns-clause-none c = keeper_leaves_none

pub returns-clause-exactly : goal.returns-clause-exactly
returns-clause-exactly c = keeper_steps
