use Rattle.std.proofs.Common.{ap, sym, ◌∙◌}
use Rattle.zq_key.specs.Key.{is_plain}
use Rattle.zq_namespace.specs.Leaves.{ExitState}
use Rattle.zq_namespace.proofs.Within.{answers-within}
use Rattle.zq_namespace.proofs.exit.ENamespace.leave.Goals as goal

pub returns-clause-within : goal.returns-clause-within
returns-clause-within c = answers-within c.args.self.now c.args.message.now (λ o. o) c.pass.result (ap (λ (s : ExitState). is_plain s.ns) (sym c.self.view_is) ∙ c.self.invariant) c.pass.ensures.leaves
