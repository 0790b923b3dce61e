use Rattle.zq_tables.proofs.IndexLemmas.{at_place}
use Rattle.zq_tables.proofs.by_node.take_out.Goals as goal

pub remove-requires : goal.remove-requires
remove-requires c = (at_place c.args.nodes.now.entries c.args.row.now c.args.node c.args.id c.place_of-at.result c.requires.index c.requires.node c.place_of-at.ensures).0

pub returns : goal.returns
returns c =
    let there = at_place c.args.nodes.now.entries c.args.row.now c.args.node c.args.id c.place_of-at.result c.requires.index c.requires.node c.place_of-at.ensures in
    record { at = c.place_of-at.result; in_range = there.0; was = there.1; is = c.remove.ensures.rest }
