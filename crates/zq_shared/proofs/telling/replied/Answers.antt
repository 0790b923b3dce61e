use Rattle.zq_shared.proofs.Lending.{replied_some}
use Rattle.zq_shared.proofs.telling.replied.Goals as goal

pub returns-clause-some : goal.returns-clause-some
returns-clause-some c = replied_some c.args.message.now c.reply.result c.number.result c.reply.ensures c.number.ensures c.if-is_none.ensures
