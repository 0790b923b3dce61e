use Rattle.std.proofs.Common.{subst, Some}
use Rattle.zq_machine.specs.declared.call.Call.TheVariants as call
use Rattle.zq_machine.specs.State.{State}
use Rattle.zq_gateway.specs.Caching.{Cached}
use Rattle.zq_gateway.specs.Making.{MayPerform}
use Rattle.zq_gateway.proofs.Performed.{always, left_sound, named_same, performed}
use Rattle.zq_gateway.proofs.gateway.Gateway.open_face.Goals as goal

pub invariant_of-self : goal.invariant_of-self
invariant_of-self c =
    let s : State = c.self.inside.tables in
    left_sound s c.open-made.new.self c.self.inside.routes c.let_go.new.routes (Some (call.Open c.args.opening.now)) c.open-made.result c.open-made.ensures c.let_go.ensures c.self.invariant.0 c.self.invariant.1

pub returns : goal.returns
returns c =
    let s : State = c.self.inside.tables in
    subst (λ (g : Cached). MayPerform g (record { state = c.open-made.new.self; routes = c.let_go.new.routes }) (Some (call.Open c.args.opening.now)) c.open-made.result) c.self.view_is
    (performed s c.open-made.new.self c.self.inside.routes c.self.inside.routes c.let_go.new.routes (Some (call.Open c.args.opening.now)) c.open-made.result c.open-made.ensures (named_same s.names c.self.inside.routes) (always c.open-made.result) c.let_go.ensures)
