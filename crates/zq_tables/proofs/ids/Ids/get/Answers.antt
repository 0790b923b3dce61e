use Rattle.zq_tables.proofs.IndexLemmas.{short_ids}
use Rattle.zq_tables.proofs.ids.Ids.get.Goals as goal

pub node_at-requires : goal.node_at-requires
node_at-requires c = short_ids c.self.inside.nodes.entries c.self.inside.by_node c.self.invariant
