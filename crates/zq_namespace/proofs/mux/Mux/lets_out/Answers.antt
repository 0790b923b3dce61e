use Rattle.zq_namespace.specs.Out.{left}
use Rattle.zq_namespace.proofs.Within.{answers-in}
use Rattle.zq_namespace.proofs.mux.Mux.lets_out.Goals as goal

pub returns-clause-denied : goal.returns-clause-denied
returns-clause-denied c = answers-in c.args.self.now c.args.key.now c.args.message.now (left c.args.message.now) c.message_out.result c.message_out.ensures
