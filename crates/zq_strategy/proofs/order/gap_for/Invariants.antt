use Rattle.std.proofs.Common.{◌≡◌, ℕ, ◌≤◌, ◌<◌, length, slice_index_or, true}
use Rattle.std.specs.Ordering.{is_lt}
use Rattle.zq_strategy.specs.OfferOrder.{offer_cmp}
use Rattle.zq_strategy.specs.declared.offer.QueryTargetQabl.{QueryTargetQabl}
use Rattle.zq_strategy.proofs.order.gap_for.Given as goal

abbrev pub invariant-loop-at : goal.invariant-loop-at
invariant-loop-at l = record {
  within : l.at ≤ length l.offers;
  after : (k : ℕ) (d : QueryTargetQabl) → l.at ≤ k → k < length l.offers → is_lt (offer_cmp l.offer (slice_index_or l.offers k d)) ≡ true;
}

abbrev pub decreases-loop-at : goal.decreases-loop-at
decreases-loop-at l = l.at
