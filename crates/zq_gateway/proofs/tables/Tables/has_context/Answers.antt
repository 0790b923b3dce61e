use Rattle.std.proofs.Common.{◌∙◌, ap}
use Rattle.zq_tables.specs.Naming.{has_context}
use Rattle.zq_machine.specs.State.{State}
use Rattle.zq_gateway.proofs.Contexts.{standing_is}
use Rattle.zq_gateway.proofs.tables.Tables.has_context.Goals as goal

pub returns-clause-standing : goal.returns-clause-standing
returns-clause-standing c =
    c.has_context.ensures ∙ ap (λ (x : State). has_context c.args.key.now x.names) c.self.view_is ∙ standing_is c.args.self.now c.requires c.args.key.now
