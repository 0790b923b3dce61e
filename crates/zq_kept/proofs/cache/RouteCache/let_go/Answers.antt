use Rattle.std.proofs.Common.{sym, subst}
use Rattle.zq_kept.specs.Current.{AreCurrent, KeptOffers}
use Rattle.zq_kept.proofs.cache.RouteCache.let_go.Goals as goal

pub returns-clause-current : goal.returns-clause-current
returns-clause-current c hats f current =
    let P : KeptOffers → Type 0 = (λ t. AreCurrent t hats) in
    c.let_go.ensures.current hats f (subst P (sym c.self.view_is) current)
