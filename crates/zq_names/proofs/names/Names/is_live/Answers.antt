use Rattle.zq_names.proofs.Table.{has_node, live_number}
use Rattle.zq_names.proofs.names.Names.is_live.Goals as goal

pub returns : goal.returns
returns c = (λ is. live_number _ _ _ _ c.self.view_is c.self.invariant.table (c.contains.ensures.0 is), λ live. c.contains.ensures.1 (has_node _ _ _ _ c.self.view_is c.self.invariant.table live))
