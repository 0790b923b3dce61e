use Rattle.std.proofs.Common.{◌∙◌, ap, sym, refl, fold, drop, ◌∷◌, ◌+◌}
use Rattle.std.specs.Prelude.{option_copied}
use Rattle.std.specs.List.{filter}
use Rattle.std.proofs.lemmas.List.{at_drop_more}
use Rattle.zq_egress.specs.Askers.{asker_of}
use Rattle.zq_machine.specs.Selecting.{passes}
use Rattle.zq_route.specs.Selection.{is_complete, nearer}
use Rattle.zq_kept.proofs.Best.{nearer_next}
use Rattle.zq_kept.proofs.pick.nearest_of.Goals as goal

pub loop-offer-preserved : goal.loop-offer-preserved
loop-offer-preserved c =
    let test = passes (asker_of c.args.asker.now) in
    let offers = c.args.offers.now in
    let i = c.loop-offer.offer-index in
    let found = option_copied c.loop-offer.found in
    let rest = drop (i + 1) offers in
    ap (λ f. fold nearer f (filter is_complete (filter test rest))) c.nearer_best-found.ensures
    ∙ nearer_next test found c.offer-item.result rest _ refl
    ∙ ap (λ o. fold nearer found (filter is_complete (filter test (o ∷ rest)))) c.offer-item.is
    ∙ sym (at_drop_more (λ l. fold nearer found (filter is_complete (filter test l))) offers i c.offer-item.result c.loop-offer-test.true)
    ∙ c.loop-offer.invariant
