use Rattle.zq_hold.proofs.Follows.{seat_cut, seat_join}
use Rattle.zq_hold.proofs.laws.seat_cut_counts.Goals as goal

pub returns-clause-cut : goal.returns-clause-cut
returns-clause-cut c = seat_cut

pub returns-clause-join : goal.returns-clause-join
returns-clause-join c = seat_join
