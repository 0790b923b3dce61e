use Rattle.zq_namespace.proofs.Within.{answers-in}
use Rattle.zq_namespace.proofs.mux.Mux.leave.Goals as goal

pub returns-clause-denied : goal.returns-clause-denied
returns-clause-denied c = answers-in c.args.self.now c.args.key.now c.args.message.now (λ o. o) c.pass.result c.pass.ensures.leaves
