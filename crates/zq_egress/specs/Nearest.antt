-- Which offer is picked where the best one of all regions together is looked for.
use Rattle.std.specs.Prelude.{◌≡◌, ℕ, true, false, List, [], ◌∷◌, filter}
use Rattle.std.specs.List.{AllByRecursion, list_any}
use Rattle.std.specs.Ordering.{is_lt}
use Rattle.zq_message.specs.declared.message.QueryTarget.{QueryTarget}
use Rattle.zq_message.specs.declared.message.QueryTarget.TheVariants as target
use Rattle.zq_strategy.specs.declared.offer.QueryTargetQabl.{QueryTargetQabl}
use Rattle.zq_strategy.specs.OfferOrder.{offer_cmp}
use Rattle.zq_route.specs.declared.selection.Best.{Best}
use Rattle.zq_route.specs.declared.selection.Best.TheVariants as by
use Rattle.zq_route.specs.Selection.{is_complete}

-- the offer is complete, and none of the complete ones comes before it in the order of offers
pub record IsNearest (o : QueryTargetQabl) (offers : List QueryTargetQabl) : Type 0 where
  pub complete : is_complete o ≡ true
  pub first : AllByRecursion (λ x. is_lt (offer_cmp x o) ≡ false) (filter is_complete offers)

-- where the best is looked for overall and an offer is complete, the nearest alone is picked
abbrev pub TakesNearest : Best → QueryTarget → List QueryTargetQabl → List QueryTargetQabl → Type 0
TakesNearest by.Overall target.BestMatching offers picked = list_any is_complete offers ≡ true → (o : QueryTargetQabl) × (picked ≡ o ∷ []) × IsNearest o offers
TakesNearest by.Overall target.All offers picked = Unit {0}
TakesNearest by.Overall target.AllComplete offers picked = Unit {0}
TakesNearest by.ByRegion target offers picked = Unit {0}
