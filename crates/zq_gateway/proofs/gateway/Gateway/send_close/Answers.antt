use Rattle.std.proofs.Common.{subst, Some}
use Rattle.zq_machine.specs.declared.call.Call.TheVariants as call
use Rattle.zq_machine.specs.State.{State}
use Rattle.zq_gateway.specs.Caching.{Cached, LetsGo}
use Rattle.zq_gateway.specs.Making.{MayPerform}
use Rattle.zq_gateway.proofs.Performed.{always, left_sound, named_same, performed}
use Rattle.zq_gateway.proofs.gateway.Gateway.send_close.Goals as goal

pub invariant_of-self : goal.invariant_of-self
invariant_of-self c =
    let s : State = c.self.inside.tables in
    left_sound s c.close-made.new.self c.self.inside.routes c.let_go.new.routes (Some (call.Close c.args.face)) c.close-made.result c.close-made.ensures (subst (λ r. LetsGo r c.close-made.result c.self.inside.routes c.let_go.new.routes) c.region_of-region.ensures.region c.let_go.ensures) c.self.invariant.0 c.self.invariant.1

pub returns : goal.returns
returns c =
    let s : State = c.self.inside.tables in
    subst (λ (g : Cached). MayPerform g (record { state = c.close-made.new.self; routes = c.let_go.new.routes }) (Some (call.Close c.args.face)) c.close-made.result) c.self.view_is
    (performed s c.close-made.new.self c.self.inside.routes c.self.inside.routes c.let_go.new.routes (Some (call.Close c.args.face)) c.close-made.result c.close-made.ensures (named_same s.names c.self.inside.routes) (always c.close-made.result) (subst (λ r. LetsGo r c.close-made.result c.self.inside.routes c.let_go.new.routes) c.region_of-region.ensures.region c.let_go.ensures))
