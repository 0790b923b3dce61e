use Rattle.std.proofs.Common.{ap, sym, ◌∙◌}
use Rattle.zq_key.specs.Key.{is_plain}
use Rattle.zq_namespace.proofs.Within.{comes-back}
use Rattle.zq_namespace.proofs.entry.Namespace.enter.Goals as goal

pub returns-clause-back : goal.returns-clause-back
returns-clause-back c = λ heads z k. comes-back c.args.self.now heads c.args.wire.now c.put_behind.result c.put_behind.ensures (ap is_plain (sym c.self.view_is) ∙ c.self.invariant) z k
