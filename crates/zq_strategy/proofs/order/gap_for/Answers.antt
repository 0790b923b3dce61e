use Rattle.std.proofs.Common.{arith}
use Rattle.std.specs.Ordering.{is_lt}
use Rattle.std.proofs.lemmas.List.Sums.{suffix_len_is}
use Rattle.zq_strategy.specs.OfferOrder.{offer_cmp}
use Rattle.zq_strategy.proofs.order.gap_for.Goals as goal

pub returns-clause-place : goal.returns-clause-place
returns-clause-place c =
    let s = suffix_len_is (λ y. is_lt (offer_cmp c.args.offer.now y)) c.args.offers.now c.loop-at.at c.args.offer.now c.loop-at.invariant.within (λ k l m. c.loop-at.invariant.after k c.args.offer.now l m) (λ h. c.goes_before.ensures.no c.loop-at-test.false h c.args.offer.now) in
    omega (arith, s, c.loop-at.invariant.within)
