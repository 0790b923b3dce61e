use Rattle.std.proofs.Common.{◌≡◌, ap, subst, ℕ, IfSome, Some, List, Bor}
use Rattle.zq_machine.specs.State.{hat_at}
use Rattle.zq_strategy.specs.declared.offer.QueryTargetQabl.{QueryTargetQabl}
use Rattle.zq_strategy.specs.Offers.{offers_of}
use Rattle.zq_strategy.specs.State.{HatState}
use Rattle.zq_gateway.specs.Caching.{Cached}
use Rattle.zq_gateway.proofs.gateway.Gateway.cached.Goals as goal

pub returns-clause-value : goal.returns-clause-value
returns-clause-value c =
    let P : List (ℕ × HatState) → Type 0 = λ hats. IfSome c.get.result (λ (os : Bor (List QueryTargetQabl)). (h : HatState) → hat_at c.args.destination.now hats ≡ Some h → os.now ≡ offers_of h c.args.asker.now c.args.key.now (Some c.args.node)) in
    subst P (ap (λ (g : Cached). g.state.core.hats) c.self.view_is) (c.get.ensures.value c.self.inside.tables.core.hats c.self.invariant.1)
