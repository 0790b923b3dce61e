use Rattle.std.proofs.Common.{subst, Some}
use Rattle.zq_machine.specs.declared.call.Call.TheVariants as call
use Rattle.zq_machine.specs.State.{State}
use Rattle.zq_gateway.specs.Caching.{Cached}
use Rattle.zq_gateway.specs.Making.{MayPerform}
use Rattle.zq_gateway.proofs.Performed.{always, goes_none, left_sound, named_same, performed}
use Rattle.zq_gateway.proofs.gateway.Gateway.send_interest.Goals as goal

pub invariant_of-self : goal.invariant_of-self
invariant_of-self c =
    let s : State = c.self.inside.tables in
    left_sound s c.register_interest.new.self c.self.inside.routes c.self.inside.routes (Some (call.Interest c.args.face c.args.msg.now.id c.args.msg.now.keys c.args.msg.now.aggregate c.args.msg.now.wire)) c.register_interest.result c.register_interest.ensures (goes_none c.register_interest.result c.self.inside.routes) c.self.invariant.0 c.self.invariant.1

pub returns : goal.returns
returns c =
    let s : State = c.self.inside.tables in
    subst (λ (g : Cached). MayPerform g (record { state = c.register_interest.new.self; routes = c.self.inside.routes }) (Some (call.Interest c.args.face c.args.msg.now.id c.args.msg.now.keys c.args.msg.now.aggregate c.args.msg.now.wire)) c.register_interest.result) c.self.view_is
    (performed s c.register_interest.new.self c.self.inside.routes c.self.inside.routes c.self.inside.routes (Some (call.Interest c.args.face c.args.msg.now.id c.args.msg.now.keys c.args.msg.now.aggregate c.args.msg.now.wire)) c.register_interest.result c.register_interest.ensures (named_same s.names c.self.inside.routes) (always c.register_interest.result) (goes_none c.register_interest.result c.self.inside.routes))
