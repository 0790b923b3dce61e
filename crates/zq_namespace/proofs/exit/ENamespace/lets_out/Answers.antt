use Rattle.std.proofs.Common.{ap, sym, ◌∙◌}
use Rattle.zq_key.specs.Key.{is_plain}
use Rattle.zq_namespace.specs.Leaves.{ExitState}
use Rattle.zq_namespace.specs.Out.{left}
use Rattle.zq_namespace.proofs.Within.{answers-within}
use Rattle.zq_namespace.proofs.exit.ENamespace.lets_out.Goals as goal

pub returns-clause-within : goal.returns-clause-within
returns-clause-within c = answers-within c.args.self.now c.args.message.now (left c.args.message.now) c.message_out.result (ap (λ (s : ExitState). is_plain s.ns) (sym c.self.view_is) ∙ c.self.invariant) c.message_out.ensures
