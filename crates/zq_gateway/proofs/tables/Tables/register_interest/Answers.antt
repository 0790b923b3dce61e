use Rattle.std.proofs.Common.{Option, subst}
use Rattle.zq_tables.specs.declared.resolved.Resolved.{Resolved}
use Rattle.zq_machine.specs.TextCalls.{hearing}
use Rattle.zq_gateway.specs.Making.{Settles}
use Rattle.zq_gateway.proofs.tables.Tables.register_interest.Goals as goal

pub returns : goal.returns
returns c =
    subst (λ (said : Option Resolved). Settles c.args.self.now c.ask_to_hear.new.self (hearing c.args.face c.args.id (record { keys = c.args.keys; aggregate = c.args.aggregate }) said) c.ask_to_hear.result) c.in_ok-said.ensures c.ask_to_hear.ensures
