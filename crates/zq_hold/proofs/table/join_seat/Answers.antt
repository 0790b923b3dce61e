use Rattle.zq_hold.proofs.Cuts.{leaves}
use Rattle.zq_hold.proofs.table.join_seat.Goals as goal

pub join_seat-requires : goal.join_seat-requires
join_seat-requires c = let k = c.requires.keeper in let s = c.requires.seat.0 in
    (k.here, s.here, s.out, k.some, leaves c.args.table.now.shared.key c.args.keeper.now.id c.args.seat.id c.args.keeper.now.me.0 c.args.seat.me.0 k.keeps s.sits c.requires.seat.1 s.shows s.stands)
