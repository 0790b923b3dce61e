use Rattle.std.proofs.Common.{subst}
use Rattle.zq_machine.specs.TextCalls.{replying}
use Rattle.zq_gateway.specs.Making.{Settles}
use Rattle.zq_gateway.proofs.tables.Tables.send_response.Goals as goal

pub returns : goal.returns
returns c =
    subst (λ said. Settles c.args.self.now c.reply.new.self (replying c.args.face said c.args.msg.now) c.reply.result) c.in_ok-said.ensures c.reply.ensures
