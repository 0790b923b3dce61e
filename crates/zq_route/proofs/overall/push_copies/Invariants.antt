use Rattle.std.proofs.Common.{◌≡◌, ◌++◌, take}
use Rattle.zq_route.proofs.overall.push_copies.Given as goal

abbrev pub invariant-loop-offer : goal.invariant-loop-offer
invariant-loop-offer l = l.copies ≡ l.initial.copies ++ take l.offer-index l.offers
