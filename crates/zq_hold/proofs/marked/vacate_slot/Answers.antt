use Rattle.std.proofs.Common.{◌∙◌, ap}
use Rattle.zq_hold.specs.Seats.{Ended}
use Rattle.zq_hold.proofs.Keepers.{joins_asks, vacate_asks, vacated_keeper}
use Rattle.zq_hold.proofs.marked.vacate_slot.Goals as goal

pub join_seat-requires : goal.join_seat-requires
join_seat-requires c = let h = ap (λ (e : Ended). e.home) c.last.view_is in joins_asks c.args.keeper.now c.args.table.now.shared c.args.marks.now c.requires.keeper c.last.inside.seat c.last.inside.slot.0 c.last.invariant (h ∙ c.requires.home)

pub load-requires : goal.load-requires
load-requires c = let h = ap (λ (e : Ended). e.home) c.last.view_is in let j = c.join_seat.ensures in
    vacate_asks c.args.keeper.now c.args.table.now.shared c.args.marks.now c.requires.keeper c.last.inside.seat c.last.inside.slot.0 c.last.invariant (h ∙ c.requires.home) c.join_seat.new.seat j.0 j.2

pub returns-clause-keeper : goal.returns-clause-keeper
returns-clause-keeper c = let h = ap (λ (e : Ended). e.home) c.last.view_is in let j = c.join_seat.ensures in let l = c.load.ensures in
    (vacated_keeper c.args.keeper.now c.args.table.now.shared c.args.marks.now c.requires.keeper c.last.inside.seat c.last.inside.slot.0 c.last.invariant (h ∙ c.requires.home) c.join_seat.new.seat j.0 j.2 c.load.new.seat l.0 l.2).0
