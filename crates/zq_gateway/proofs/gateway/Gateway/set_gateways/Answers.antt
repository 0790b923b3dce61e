use Rattle.std.proofs.Common.{subst, Some}
use Rattle.zq_machine.specs.declared.call.Call.TheVariants as call
use Rattle.zq_machine.specs.State.{State}
use Rattle.zq_gateway.specs.Caching.{Cached}
use Rattle.zq_gateway.specs.Making.{MayPerform}
use Rattle.zq_gateway.proofs.Performed.{always, goes_none, left_sound, named_same, performed}
use Rattle.zq_gateway.proofs.gateway.Gateway.set_gateways.Goals as goal

pub invariant_of-self : goal.invariant_of-self
invariant_of-self c =
    let s : State = c.self.inside.tables in
    left_sound s c.list_gateways.new.self c.self.inside.routes c.self.inside.routes (Some (call.SetGateways c.args.region c.args.table.now)) c.list_gateways.result c.list_gateways.ensures (goes_none c.list_gateways.result c.self.inside.routes) c.self.invariant.0 c.self.invariant.1

pub returns : goal.returns
returns c =
    let s : State = c.self.inside.tables in
    subst (λ (g : Cached). MayPerform g (record { state = c.list_gateways.new.self; routes = c.self.inside.routes }) (Some (call.SetGateways c.args.region c.args.table.now)) c.list_gateways.result) c.self.view_is
    (performed s c.list_gateways.new.self c.self.inside.routes c.self.inside.routes c.self.inside.routes (Some (call.SetGateways c.args.region c.args.table.now)) c.list_gateways.result c.list_gateways.ensures (named_same s.names c.self.inside.routes) (always c.list_gateways.result) (goes_none c.list_gateways.result c.self.inside.routes))
