use Rattle.std.proofs.Common.{subst}
use Rattle.std.specs.Prelude.{◌≤◌, IfOk, length}
use Rattle.zq_machine.specs.Asked.{replies_of}
use Rattle.zq_machine.specs.Machine.{step}
use Rattle.zq_gateway.specs.Caching.{Cached}
use Rattle.zq_gateway.proofs.gateway.Gateway.most_replies.Goals as goal

pub returns : goal.returns
returns c = subst (λ (g : Cached). IfOk c.most_replies.result (λ n. length (replies_of (step g.state c.args.call.now)) ≤ n)) c.self.view_is c.most_replies.ensures
