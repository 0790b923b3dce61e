use Rattle.std.proofs.Common.{sym, ◌≡◌, arith}
use Rattle.zq_tables.proofs.IndexLemmas.{least_there, none_there, other_there}
use Rattle.zq_tables.proofs.by_node.least_of.Goals as goal

pub returns-then-at-len : goal.returns-then-at-len
returns-then-at-len c = none_there c.args.nodes.now.entries c.args.row.now c.args.node c.place_of-at.result c.requires.ordered c.requires.index c.place_of-at.ensures (omega arith)

pub returns-then-node_of-node : goal.returns-then-node_of-node
returns-then-node_of-node c = other_there c.args.nodes.now.entries c.args.row.now c.args.node c.node_of.result c.place_of-at.result c.get-id.result c.requires.ordered c.requires.index c.place_of-at.ensures (omega arith) (sym c.get-id.ensures.number) c.node_of.ensures (omega arith)

pub returns : goal.returns
returns c =
    let same : c.node_of.result ≡ c.args.node = omega arith in
    least_there c.args.nodes.now.entries c.args.row.now c.args.node c.place_of-at.result c.get-id.result c.requires.ordered c.requires.index c.place_of-at.ensures (omega arith) (sym c.get-id.ensures.number) (rw (sym same) c.node_of.ensures)
