use Rattle.std.proofs.Common.{◌∙◌, ap}
use Rattle.zq_hold.specs.Seats.{Ended}
use Rattle.zq_hold.proofs.Seats.{takes_asks, look_asks, gives_asks}
use Rattle.zq_hold.proofs.table.see_end.Goals as goal

pub join_seat-requires : goal.join_seat-requires
join_seat-requires c = let h = ap (λ (e : Ended). e.home) c.last.view_is in takes_asks c.args.seat.now c.args.table.now.shared c.requires.seat c.last.inside.seat c.last.inside.slot.0 c.last.invariant (h ∙ c.requires.home)

pub load-requires : goal.load-requires
load-requires c = let h = ap (λ (e : Ended). e.home) c.last.view_is in let j = c.join_seat.ensures in
    look_asks c.args.seat.now c.args.table.now.shared c.requires.seat c.last.inside.seat c.last.inside.slot.0 c.last.invariant (h ∙ c.requires.home) c.join_seat.new.seat j.0 j.2

pub split_seat-end-requires : goal.split_seat-end-requires
split_seat-end-requires c = let h = ap (λ (e : Ended). e.home) c.last.view_is in let j = c.join_seat.ensures in let l = c.load.ensures in
    gives_asks c.args.seat.now c.args.table.now.shared c.requires.seat c.last.inside.seat c.last.inside.slot.0 c.last.invariant (h ∙ c.requires.home) c.join_seat.new.seat j.0 j.2 c.load.new.seat l.0 l.2.0
