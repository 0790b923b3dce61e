use Rattle.std.proofs.Common.{subst, Some}
use Rattle.zq_machine.specs.State.{State}
use Rattle.zq_gateway.specs.Caching.{Cached, LetsGo}
use Rattle.zq_gateway.specs.Making.{MayPerform}
use Rattle.zq_gateway.proofs.Performed.{left_sound, performed}
use Rattle.zq_gateway.proofs.gateway.Gateway.call.Goals as goal

pub invariant_of-self : goal.invariant_of-self
invariant_of-self c =
    let s : State = c.self.inside.tables in
    left_sound s c.call-made.new.self c.call-made.new.routes c.let_go.new.routes (Some c.args.call.now) c.call-made.result c.call-made.ensures.makes (subst (λ r. LetsGo r c.call-made.result c.call-made.new.routes c.let_go.new.routes) c.region_changed-region.ensures c.let_go.ensures) c.self.invariant.0 c.call-made.ensures.current

pub returns : goal.returns
returns c =
    let s : State = c.self.inside.tables in
    subst (λ (g : Cached). MayPerform g (record { state = c.call-made.new.self; routes = c.let_go.new.routes }) (Some c.args.call.now) c.call-made.result) c.self.view_is
    (performed s c.call-made.new.self c.self.inside.routes c.call-made.new.routes c.let_go.new.routes (Some c.args.call.now) c.call-made.result c.call-made.ensures.makes c.call-made.ensures.stays c.call-made.ensures.kept (subst (λ r. LetsGo r c.call-made.result c.call-made.new.routes c.let_go.new.routes) c.region_changed-region.ensures c.let_go.ensures))
