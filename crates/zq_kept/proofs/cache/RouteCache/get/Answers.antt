use Rattle.std.proofs.Common.{sym, subst}
use Rattle.zq_kept.specs.Current.{AreCurrent, KeptOffers}
use Rattle.zq_kept.proofs.cache.RouteCache.get.Goals as goal

pub returns-clause-value : goal.returns-clause-value
returns-clause-value c hats current =
    let P : KeptOffers → Type 0 = (λ t. AreCurrent t hats) in
    c.kept_at.ensures.value hats (subst P (sym c.self.view_is) current)
