use Rattle.std.proofs.Common.{◌≡◌, ◌∙◌, [], ap, subst, ℕ, Option}
use Rattle.std.specs.List.{flat_map}
use Rattle.std.specs.Option.{option_map_or}
use Rattle.zq_message.specs.declared.message.Zid.{Zid}
use Rattle.zq_strategy.specs.Entries.{Entries}
use Rattle.zq_strategy.specs.Seating as seat
use Rattle.zq_strategy.specs.OfferOrder.{met_offers, offer_cmp, sorted}
use Rattle.zq_strategy.specs.Routed.{routed_offers}
use Rattle.zq_strategy.specs.declared.types.Strategy.{Strategy}
use Rattle.zq_strategy.specs.Regions.{strategy_at}
use Rattle.zq_strategy.specs.Routers.{entries_offers, face_with}
use Rattle.zq_strategy.specs.State.{HatState}
use Rattle.zq_hat.specs.Tied.{IsSeated}
use Rattle.zq_hat.proofs.Seated.{seats_are}
use Rattle.zq_hat.proofs.hat.Hat.router_offers.Goals as goal

pub returns : goal.returns
returns c =
    let i = c.self.inside in
    let key = c.args.key.now in
    let source = c.in-Some.source in
    let now = c.args.self.now in
    let seated = subst (λ (k : Strategy). IsSeated k i.faces.entries i.seats) (ap strategy_at c.self.view_is ∙ c.requires.routers) c.self.invariant.seated in
    let found : (λ (z : Zid). seat.seated z i.seats) ≡ (λ (z : Zid). face_with z i.faces.entries) = λ j z. seats_are z i.faces.entries i.seats c.self.invariant.tied.numbers seated j in
    c.from_vec.ensures
    ∙ c.in_ok-offers.ensures
    ∙ ap (λ (es : Entries). sorted offer_cmp (flat_map (met_offers (routed_offers i.net (λ z. seat.seated z i.seats) i.region source key) key) es)) c.by_key.ensures.value
    ∙ ap (λ (face : Zid → Option ℕ). sorted offer_cmp (flat_map (met_offers (routed_offers i.net face i.region source key) key) i.entries)) found
    ∙ ap (λ (s : HatState). sorted offer_cmp (flat_map (entries_offers s key source) s.entries)) c.self.view_is
    ∙ ap (λ (o : Option ℕ). sorted offer_cmp (option_map_or (λ n. flat_map (entries_offers now key n) now.entries) o [])) c.in-Some.ensures
