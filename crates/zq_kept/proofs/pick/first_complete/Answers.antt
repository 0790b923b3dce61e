use Rattle.std.proofs.Common.{◌∙◌, sym}
use Rattle.zq_egress.specs.Askers.{asker_of}
use Rattle.zq_machine.specs.Selecting.{passes}
use Rattle.zq_route.proofs.Choosing.{best_at}
use Rattle.zq_kept.proofs.Best.{passed}
use Rattle.zq_kept.proofs.pick.first_complete.Goals as goal

pub returns-then-is_best-clause-some : goal.returns-then-is_best-clause-some
returns-then-is_best-clause-some c =
    let inside = c.loop-i-test.true in
    (inside, sym c.loop-i.invariant ∙ best_at (passes (asker_of c.args.asker.now)) c.args.offers.now c.loop-i.i c.index-offers-i.result inside c.index-offers-i.is (sym c.is_best.ensures ∙ c.if-is_best.true))

pub loop-i-preserved : goal.loop-i-preserved
loop-i-preserved c =
    passed (passes (asker_of c.args.asker.now)) c.args.offers.now c.loop-i.i c.index-offers-i.result c.loop-i-test.true c.index-offers-i.is (sym c.is_best.ensures ∙ c.if-is_best.false) ∙ c.loop-i.invariant
