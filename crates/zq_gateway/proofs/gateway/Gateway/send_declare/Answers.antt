use Rattle.std.proofs.Common.{subst}
use Rattle.zq_machine.specs.Calls.{declared_call}
use Rattle.zq_machine.specs.State.{State}
use Rattle.zq_gateway.specs.Caching.{Cached, LetsGo}
use Rattle.zq_gateway.specs.Making.{MayPerform}
use Rattle.zq_gateway.proofs.Performed.{asked_declared, left_sound, named_same, performed}
use Rattle.zq_gateway.proofs.gateway.Gateway.send_declare.Goals as goal

pub invariant_of-self : goal.invariant_of-self
invariant_of-self c =
    let s : State = c.self.inside.tables in
    left_sound s c.send_declare-made.new.self c.self.inside.routes c.let_go.new.routes (declared_call c.args.face c.args.msg.now) c.send_declare-made.result c.send_declare-made.ensures (subst (λ r. LetsGo r c.send_declare-made.result c.self.inside.routes c.let_go.new.routes) c.region_declared-region.ensures c.let_go.ensures) c.self.invariant.0 c.self.invariant.1

pub returns : goal.returns
returns c =
    let s : State = c.self.inside.tables in
    subst (λ (g : Cached). MayPerform g (record { state = c.send_declare-made.new.self; routes = c.let_go.new.routes }) (declared_call c.args.face c.args.msg.now) c.send_declare-made.result) c.self.view_is
    (performed s c.send_declare-made.new.self c.self.inside.routes c.self.inside.routes c.let_go.new.routes (declared_call c.args.face c.args.msg.now) c.send_declare-made.result c.send_declare-made.ensures (named_same s.names c.self.inside.routes) (asked_declared s c.self.inside.routes c.args.face c.args.msg.now c.send_declare-made.result) (subst (λ r. LetsGo r c.send_declare-made.result c.self.inside.routes c.let_go.new.routes) c.region_declared-region.ensures c.let_go.ensures))
