use Rattle.zq_hold.proofs.Follows.{seat_leaves_zero, seat_leaves_none, seat_steps}
use Rattle.zq_hold.proofs.laws.seat_step_counts.Goals as goal

pub returns-clause-last : goal.returns-clause-last
returns-clause-last c = seat_leaves_zero

pub returns-clause-none : goal.returns-clause-none
returns-clause-none c = seat_leaves_none

pub returns-clause-exactly : goal.returns-clause-exactly
returns-clause-exactly c = seat_steps
