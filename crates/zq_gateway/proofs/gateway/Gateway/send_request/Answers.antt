use Rattle.std.proofs.Common.{subst, Some}
use Rattle.zq_machine.specs.declared.call.Call.TheVariants as call
use Rattle.zq_machine.specs.State.{State}
use Rattle.zq_gateway.specs.Caching.{Cached}
use Rattle.zq_gateway.specs.Making.{MayPerform}
use Rattle.zq_gateway.proofs.Performed.{goes_none, left_sound, performed}
use Rattle.zq_gateway.proofs.gateway.Gateway.send_request.Goals as goal

pub invariant_of-self : goal.invariant_of-self
invariant_of-self c =
    let s : State = c.self.inside.tables in
    left_sound s c.send_request.new.self c.send_request.new.routes c.send_request.new.routes (Some (call.Request c.args.face c.args.msg.now c.args.now)) c.send_request.result c.send_request.ensures.makes (goes_none c.send_request.result c.send_request.new.routes) c.self.invariant.0 c.send_request.ensures.current

pub returns : goal.returns
returns c =
    let s : State = c.self.inside.tables in
    subst (λ (g : Cached). MayPerform g (record { state = c.send_request.new.self; routes = c.send_request.new.routes }) (Some (call.Request c.args.face c.args.msg.now c.args.now)) c.send_request.result) c.self.view_is
    (performed s c.send_request.new.self c.self.inside.routes c.send_request.new.routes c.send_request.new.routes (Some (call.Request c.args.face c.args.msg.now c.args.now)) c.send_request.result c.send_request.ensures.makes c.send_request.ensures.stays c.send_request.ensures.kept (goes_none c.send_request.result c.send_request.new.routes))
