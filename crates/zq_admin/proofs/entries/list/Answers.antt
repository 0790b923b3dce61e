use Rattle.zq_admin.proofs.Ordered.{found_ordered}
use Rattle.zq_admin.proofs.Traced.{found_traced}
use Rattle.zq_admin.proofs.entries.list.Goals as goal

pub returns-clause-ordered : goal.returns-clause-ordered
returns-clause-ordered c = found_ordered c.args.key.now c.args.gateway.now.state c.entries_met.result c.entries_met.ensures

pub returns-clause-traced : goal.returns-clause-traced
returns-clause-traced c = found_traced c.args.key.now c.args.gateway.now.state c.entries_met.result c.entries_met.ensures
