use Rattle.std.proofs.Common.{◌∙◌, ap, fold, List, ℕ}
use Rattle.std.specs.Prelude.{filter}
use Rattle.std.specs.List.{flat_map}
use Rattle.zq_index.specs.Texts.{texts_of}
use Rattle.zq_strategy.specs.Met.{is_met}
use Rattle.zq_strategy.specs.OfferOrder.{met_offers, offer_cmp, place, sorted}
use Rattle.zq_strategy.proofs.Gathering.{gathered, offers_gathered, put_offers}
use Rattle.zq_strategy.proofs.walk.offers_for.Goals as goal

pub returns : goal.returns
returns g c =
    let q = c.args.q.now in
    let met = g.K.KeyOffers.met c.args.source.now q in
    let es = texts_of c.keys.result.now.entries in
    let made = gathered _ (λ v. v.items) (put_offers q met) (λ was e next same. same) (filter (is_met q) es) c.new-offers.result c.gather_all.new.found c.in_ok-gather_all.ensures in
    made
    ∙ offers_gathered q met es c.new-offers.result.items
    ∙ (λ i. fold (place offer_cmp) (c.new-offers.ensures.items i) (flat_map (met_offers met q) (c.keys.ensures i)))
