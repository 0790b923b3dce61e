use Rattle.zq_hold.proofs.Keepers.{release_kept_asks, released_keeper, others_hold, keeper_ends_asks, ended_keeper}
use Rattle.zq_hold.proofs.marked.release_marked.Goals as goal

pub fetch_sub-found-requires : goal.fetch_sub-found-requires
fetch_sub-found-requires c = release_kept_asks c.args.keeper.now c.args.table.now.shared c.args.marks.now c.requires.keeper c.args.slot.0 c.requires.kept.0 c.requires.kept.1

pub returns-then-found-ne1-clause-keeper : goal.returns-then-found-ne1-clause-keeper
returns-then-found-ne1-clause-keeper c = let e = c.fetch_sub-found.ensures in released_keeper c.args.keeper.now c.args.table.now.shared c.args.marks.now c.requires.keeper c.args.slot.0 c.requires.kept.0 c.fetch_sub-found.new.seat c.fetch_sub-found.result c.requires.kept.1 c.if-found-ne1.true e.0 e.2.0

pub split_seat-end-requires : goal.split_seat-end-requires
split_seat-end-requires c = let e = c.fetch_sub-found.ensures in keeper_ends_asks c.args.keeper.now c.args.table.now.shared c.args.marks.now c.requires.keeper c.args.slot.0 c.requires.kept.0 c.fetch_sub-found.new.seat c.fetch_sub-found.result e.0 e.2.0

pub returns-clause-keeper : goal.returns-clause-keeper
returns-clause-keeper c = let e = c.fetch_sub-found.ensures in let s = c.split_seat-end.ensures in
    ended_keeper c.args.keeper.now c.args.table.now.shared c.args.marks.now c.requires.keeper c.args.slot.0 c.requires.kept.0 c.fetch_sub-found.new.seat c.split_seat-end.new.seat c.fetch_sub-found.result c.requires.kept.1 e.0 e.2.0 s.0 s.2

pub returns-then-found-ne1-clause-none : goal.returns-then-found-ne1-clause-none
returns-then-found-ne1-clause-none c = let e = c.fetch_sub-found.ensures in
    others_hold c.args.keeper.now c.args.table.now.shared c.args.marks.now c.requires.keeper c.args.slot.0 c.requires.kept.0 c.fetch_sub-found.new.seat c.fetch_sub-found.result c.if-found-ne1.true e.2.0 e.2.1 e.2.2
