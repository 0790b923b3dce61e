use Rattle.zq_hold.proofs.Seats.{release_asks, released_seat, ends_asks, ended_seat}
use Rattle.zq_hold.proofs.table.release_slot.Goals as goal

pub fetch_sub-found-requires : goal.fetch_sub-found-requires
fetch_sub-found-requires c = release_asks c.args.seat.now c.args.table.now.shared c.args.slot.0 c.requires.seat c.requires.held

pub split_seat-end-requires : goal.split_seat-end-requires
split_seat-end-requires c = let e = c.fetch_sub-found.ensures in ends_asks c.args.seat.now c.fetch_sub-found.new.seat c.args.table.now.shared c.args.slot.0 c.fetch_sub-found.result c.requires.seat e.0 e.2.0

pub returns-then-found-ne1-clause-seat : goal.returns-then-found-ne1-clause-seat
returns-then-found-ne1-clause-seat c = let e = c.fetch_sub-found.ensures in released_seat c.args.seat.now c.fetch_sub-found.new.seat c.args.table.now.shared c.args.slot.0 c.fetch_sub-found.result c.requires.seat e.0 e.2.0 c.if-found-ne1.true

pub returns-clause-seat : goal.returns-clause-seat
returns-clause-seat c = let e = c.fetch_sub-found.ensures in ended_seat c.args.seat.now c.fetch_sub-found.new.seat c.args.table.now.shared c.args.slot.0 c.fetch_sub-found.result c.requires.seat e.0 e.2.0 c.split_seat-end.new.seat c.split_seat-end.result c.split_seat-end.ensures
