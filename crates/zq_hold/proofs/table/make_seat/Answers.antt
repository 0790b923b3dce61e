use Rattle.zq_hold.proofs.Cuts.{makes_seat}
use Rattle.zq_hold.proofs.table.make_seat.Goals as goal

pub split_seat-requires : goal.split_seat-requires
split_seat-requires c = let k = c.requires.keeper in (k.here, k.some, makes_seat c.args.table.now.shared.key c.args.keeper.now.id c.args.keeper.now.me.0 k.keeps c.requires.room)
