use Rattle.std.proofs.Common.{◌∙◌, sym}
use Rattle.zq_route.proofs.Choosing.{best_at}
use Rattle.zq_route.proofs.selection.first_complete.Goals as goal

pub returns-then-is_best-clause-some : goal.returns-then-is_best-clause-some
returns-then-is_best-clause-some g c =
    let inside = c.loop-i-test.true in
    (inside, sym c.loop-i.invariant ∙ best_at g.test c.args.offers.now c.loop-i.i c.index-offers-i.result inside c.index-offers-i.is (sym c.is_best.ensures ∙ c.if-is_best.true))
