use Rattle.std.proofs.Common.{◌∙◌, ap, sym, fold, length}
use Rattle.std.proofs.lemmas.Iterator.Adapters.{YieldsList-from_vec}
use Rattle.std.proofs.lemmas.Iterator.Consumers.{YieldsList-end, YieldsList-so_far}
use Rattle.std.proofs.lemmas.List.{map-id}
use Rattle.zq_route.specs.Selection.{with_kept}
use Rattle.zq_route.proofs.Choosing.{kept_all, kept_part}
use Rattle.zq_route.proofs.selection.add_kept.Goals as goal

pub returns-clause-ok : goal.returns-clause-ok
returns-clause-ok g c =
    let gives = c.into_iter-offer-iterator.ensures.into_iter_gives in
    let items = c.into_vec-offer-items.ensures in
    let whole = YieldsList-from_vec c.args.offers (gives.0 ∙ items) (gives.1 ∙ c.into_vec-offer-items.result.ok.0 ∙ ap length items) in
    let done = YieldsList-end whole c.loop-offer.yielded c.loop-offer.offer-iterator c.loop-offer.yielded_by c.next.result c.next.new.self c.in-None.is c.next.ensures.steps in
    c.loop-offer.invariant ∙ ap (fold (with_kept g.test c.args.target) c.args.route.now) (sym (map-id c.loop-offer.yielded) ∙ done.0) ∙ kept_all g.test c.args.target c.args.route.now c.args.offers

pub returns-in-Err-clause-err : goal.returns-in-Err-clause-err
returns-in-Err-clause-err g c =
    let gives = c.into_iter-offer-iterator.ensures.into_iter_gives in
    let items = c.into_vec-offer-items.ensures in
    let whole = YieldsList-from_vec c.args.offers (gives.0 ∙ items) (gives.1 ∙ c.into_vec-offer-items.result.ok.0 ∙ ap length items) in
    let front = sym (map-id c.loop-offer.yielded) ∙ YieldsList-so_far whole c.loop-offer.yielded c.loop-offer.offer-iterator c.loop-offer.yielded_by in
    let part = kept_part g.test c.args.target c.args.route.now c.args.offers (length c.loop-offer.yielded) in
    (part.0, c.in-Err.ensures.err ∙ c.loop-offer.invariant ∙ ap (fold (with_kept g.test c.args.target) c.args.route.now) front ∙ part.1)
