use Rattle.std.proofs.Common.{◌≡◌, fold}
use Rattle.std.specs.List.{flat_map}
use Rattle.zq_strategy.specs.Seating.{seated}
use Rattle.zq_strategy.specs.OfferOrder.{offer_cmp, place}
use Rattle.zq_strategy.specs.Routed.{entry_offer}
use Rattle.zq_strategy.proofs.routers.RouterOffers.add_entries.Given as goal

abbrev pub invariant-loop-router : goal.invariant-loop-router
invariant-loop-router l =
    fold (place offer_cmp) l.offers.items (flat_map (entry_offer l.self.net.now (λ zid. seated zid l.self.seats.now) l.self.region l.self.source l.included l.key) l.router-iterator)
    ≡ fold (place offer_cmp) l.initial.offers.items (flat_map (entry_offer l.self.net.now (λ zid. seated zid l.self.seats.now) l.self.region l.self.source l.included l.key) l.infos.entries)
