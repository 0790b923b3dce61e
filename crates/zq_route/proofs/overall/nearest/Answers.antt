use Rattle.std.proofs.Common.{◌∙◌, ap, sym, fold, length, None}
use Rattle.std.specs.Prelude.{option_to_list}
use Rattle.std.proofs.lemmas.Iterator.Adapters.{YieldsList-from_vec}
use Rattle.std.proofs.lemmas.Iterator.Consumers.{YieldsList-end}
use Rattle.std.proofs.lemmas.List.{map-id}
use Rattle.zq_route.proofs.Nearest.{nearest_all, with_nearer}
use Rattle.zq_route.proofs.overall.nearest.Goals as goal

pub returns : goal.returns
returns g c =
    let gives = c.into_iter-offer-iterator.ensures.into_iter_gives in
    let items = c.into_vec-offer-items.ensures in
    let whole = YieldsList-from_vec c.args.offers (gives.0 ∙ items) (gives.1 ∙ c.into_vec-offer-items.result.ok.0 ∙ ap length items) in
    let done = YieldsList-end whole c.loop-offer.yielded c.loop-offer.offer-iterator c.loop-offer.yielded_by c.next.result c.next.new.self c.in-None.is c.next.ensures.steps in
    c.loop-offer.invariant
    ∙ ap (λ l. option_to_list (fold (with_nearer g.test) None l)) (sym (map-id c.loop-offer.yielded) ∙ done.0)
    ∙ ap option_to_list (nearest_all g.test c.args.offers)
