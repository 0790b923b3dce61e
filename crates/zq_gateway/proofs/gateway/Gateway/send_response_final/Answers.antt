use Rattle.std.proofs.Common.{refl, subst}
use Rattle.std.specs.Prelude.{◌≡◌, IfOk, []}
use Rattle.std.specs.List.{cons_option}
use Rattle.zq_machine.specs.declared.call.Call.TheVariants as call
use Rattle.zq_machine.specs.Machine.{after, done, step}
use Rattle.zq_gateway.specs.Caching.{Cached}
use Rattle.zq_gateway.proofs.Performed.{left_spared}
use Rattle.zq_gateway.proofs.gateway.Gateway.send_response_final.Goals as goal

pub invariant_of-self : goal.invariant_of-self
invariant_of-self c = left_spared c.self.inside.tables c.send_response_final.new.self c.self.inside.routes (call.ResponseFinal c.args.face c.args.rid) refl c.send_response_final.ensures.after c.self.invariant

pub returns-clause-handed : goal.returns-clause-handed
returns-clause-handed c = subst (λ (g : Cached). IfOk c.send_response_final.result (λ o. step g.state (call.ResponseFinal c.args.face c.args.rid) ≡ done (cons_option o []))) c.self.view_is c.send_response_final.ensures.handed

pub returns-clause-after : goal.returns-clause-after
returns-clause-after c = subst (λ (g : Cached). c.send_response_final.new.self ≡ after g.state (call.ResponseFinal c.args.face c.args.rid)) c.self.view_is c.send_response_final.ensures.after
