use Rattle.std.proofs.Common.{subst, Some}
use Rattle.zq_machine.specs.declared.call.Call.TheVariants as call
use Rattle.zq_machine.specs.State.{State}
use Rattle.zq_gateway.specs.Caching.{Cached, LetsGo}
use Rattle.zq_gateway.specs.Making.{MayPerform}
use Rattle.zq_gateway.proofs.Performed.{always, left_sound, named_same, performed}
use Rattle.zq_gateway.proofs.gateway.Gateway.finalize_local_interest.Goals as goal

pub invariant_of-self : goal.invariant_of-self
invariant_of-self c =
    let s : State = c.self.inside.tables in
    left_sound s c.finalize-made.new.self c.self.inside.routes c.let_go.new.routes (Some (call.FinalizeInterest c.args.face c.args.mark.now c.args.set)) c.finalize-made.result c.finalize-made.ensures (subst (λ r. LetsGo r c.finalize-made.result c.self.inside.routes c.let_go.new.routes) c.region_of-region.ensures.region c.let_go.ensures) c.self.invariant.0 c.self.invariant.1

pub returns : goal.returns
returns c =
    let s : State = c.self.inside.tables in
    subst (λ (g : Cached). MayPerform g (record { state = c.finalize-made.new.self; routes = c.let_go.new.routes }) (Some (call.FinalizeInterest c.args.face c.args.mark.now c.args.set)) c.finalize-made.result) c.self.view_is
    (performed s c.finalize-made.new.self c.self.inside.routes c.self.inside.routes c.let_go.new.routes (Some (call.FinalizeInterest c.args.face c.args.mark.now c.args.set)) c.finalize-made.result c.finalize-made.ensures (named_same s.names c.self.inside.routes) (always c.finalize-made.result) (subst (λ r. LetsGo r c.finalize-made.result c.self.inside.routes c.let_go.new.routes) c.region_of-region.ensures.region c.let_go.ensures))
