use Rattle.std.proofs.Common.{◌≡◌, fold, map, None}
use Rattle.zq_strategy.specs.OfferOrder.{place, offer_cmp}
use Rattle.zq_strategy.specs.OfferOrder.{groups_from, met_offer}
use Rattle.zq_strategy.proofs.groups.add_groups.Given as goal

abbrev pub invariant-loop-place : goal.invariant-loop-place
invariant-loop-place l =
    fold (place offer_cmp) l.offers.items (map (met_offer l.region l.included l.key) (groups_from l.group l.place-iterator))
    ≡ fold (place offer_cmp) l.initial.offers.items (map (met_offer l.region l.included l.key) (groups_from None l.infos.entries))
