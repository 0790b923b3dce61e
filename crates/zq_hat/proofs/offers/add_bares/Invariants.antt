use Rattle.std.proofs.Common.{◌≡◌, fold, IfSome}
use Rattle.std.specs.List.{flat_map}
use Rattle.zq_strategy.specs.OfferOrder.{offer_cmp, place}
use Rattle.zq_strategy.specs.Offers.{bare_on}
use Rattle.zq_hat.proofs.offers.add_bares.Given as goal

abbrev pub invariant-loop-number : goal.invariant-loop-number
invariant-loop-number l = record {
  offers : fold (place offer_cmp) l.offers.items (flat_map (bare_on l.strategy l.region l.q) l.number-iterator) ≡ fold (place offer_cmp) l.initial.offers.items (flat_map (bare_on l.strategy l.region l.q) l.faces.entries);
  kept : IfSome l.kept (λ t. t ≡ l.q);
}
