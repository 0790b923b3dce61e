use Rattle.std.proofs.Common.{◌∙◌, ap, sym, fold, drop, ◌∷◌, ◌+◌}
use Rattle.std.proofs.lemmas.List.{at_drop_more, drop_all}
use Rattle.zq_egress.specs.Askers.{asker_of}
use Rattle.zq_machine.specs.Selecting.{passes}
use Rattle.zq_route.specs.Selection.{with_kept}
use Rattle.zq_route.proofs.Choosing.{kept_all}
use Rattle.zq_kept.proofs.pick.add_kept.Goals as goal

pub loop-offer-preserved : goal.loop-offer-preserved
loop-offer-preserved c =
    let step = with_kept (passes (asker_of c.args.asker.now)) c.args.target in
    let offers = c.args.offers.now in
    let i = c.loop-offer.offer-index in
    ap (λ r. fold step r (drop (i + 1) offers)) c.in_ok-add_if_kept.ensures
    ∙ ap (λ o. fold step c.loop-offer.route (o ∷ drop (i + 1) offers)) c.offer-item.is
    ∙ sym (at_drop_more (fold step c.loop-offer.route) offers i c.offer-item.result c.loop-offer-test.true)
    ∙ c.loop-offer.invariant

pub returns : goal.returns
returns c =
    let step = with_kept (passes (asker_of c.args.asker.now)) c.args.target in
    sym (ap (fold step c.loop-offer.route) (drop_all c.loop-offer.offer-index c.args.offers.now c.loop-offer-test.false))
    ∙ c.loop-offer.invariant
    ∙ kept_all (passes (asker_of c.args.asker.now)) c.args.target c.args.route.now c.args.offers.now
