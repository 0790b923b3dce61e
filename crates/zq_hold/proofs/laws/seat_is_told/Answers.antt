use Rattle.zq_hold.proofs.Histories.{seat_has_counted, seat_is_told}
use Rattle.zq_hold.proofs.laws.seat_is_told.Goals as goal

pub returns-clause-told : goal.returns-clause-told
returns-clause-told c = seat_is_told

pub returns-clause-counted : goal.returns-clause-counted
returns-clause-counted c = seat_has_counted
