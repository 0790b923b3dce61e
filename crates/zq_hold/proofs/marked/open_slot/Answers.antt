use Rattle.zq_hold.proofs.Keepers.{open_asks, opened_keeper}
use Rattle.zq_hold.proofs.marked.open_slot.Goals as goal

pub compare_exchange-requires : goal.compare_exchange-requires
compare_exchange-requires c = open_asks c.args.keeper.now c.args.table.now.shared c.args.marks.now c.requires.keeper c.args.at c.requires.vacant.0 c.requires.vacant.1

pub returns-clause-keeper : goal.returns-clause-keeper
returns-clause-keeper c = let e = c.compare_exchange.ensures in opened_keeper c.args.keeper.now c.args.table.now.shared c.args.marks.now c.requires.keeper c.args.at c.requires.vacant.0 c.compare_exchange.new.seat c.requires.vacant.1 e.0 e.2.1
