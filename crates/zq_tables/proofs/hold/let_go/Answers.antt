use Rattle.zq_tables.proofs.Letting.{lets}
use Rattle.zq_tables.proofs.hold.let_go.Goals as goal

pub returns : goal.returns
returns c = lets c.args.names.now c.unhold.new.self c.clean.new.self c.args.node.0 c.requires.held c.unhold.ensures.entries c.unhold.ensures.all c.clean.ensures.held c.clean.ensures.kept c.clean.ensures.lean
