use Rattle.std.proofs.Common.{◌≡◌, [], fold}
use Rattle.zq_hat.specs.Listings.{with_listing}
use Rattle.zq_hat.specs.Sourced.{asked_listings}
use Rattle.zq_hat.proofs.queriers.faces_queriers.Given as goal

abbrev pub invariant-loop-number : goal.invariant-loop-number
invariant-loop-number l = fold with_listing l.all (asked_listings l.strategy l.interests l.number-iterator) ≡ fold with_listing [] (asked_listings l.strategy l.interests l.faces.entries)
