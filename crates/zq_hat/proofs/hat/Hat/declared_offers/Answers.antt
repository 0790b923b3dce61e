use Rattle.std.proofs.Common.{◌≡◌, ◌∙◌, ap, subst, IfOk, List}
use Rattle.zq_strategy.specs.declared.offer.QueryTargetQabl.{QueryTargetQabl}
use Rattle.zq_strategy.specs.OfferOrder.{offer_cmp, sorted}
use Rattle.zq_strategy.specs.Offers.{declared_offers}
use Rattle.zq_strategy.specs.State.{HatState}
use Rattle.zq_hat.proofs.IndexKeys.{all_keyed, index_offers}
use Rattle.zq_hat.proofs.hat.Hat.declared_offers.Goals as goal

pub offers_for-requires-clause-keys : goal.offers_for-requires-clause-keys
offers_for-requires-clause-keys c = all_keyed c.self.inside.faces.entries c.self.inside.index c.self.invariant.tied

pub returns : goal.returns
returns c =
    let i = c.self.inside in
    let offers =
    ap (sorted offer_cmp) (index_offers i.faces.entries i.index c.self.invariant.tied i.region c.args.key.now)
    ∙ ap (λ (s : HatState). sorted offer_cmp (declared_offers s.region s.faces c.args.key.now)) c.self.view_is in
    subst (λ (l : List QueryTargetQabl). IfOk c.offers_for.result (λ o. o.items ≡ l)) offers c.offers_for.ensures
