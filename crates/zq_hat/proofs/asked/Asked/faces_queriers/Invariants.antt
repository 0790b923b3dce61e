use Rattle.std.proofs.Common.{◌≡◌, [], filter, fold}
use Rattle.zq_hat.specs.Listings.{with_listing}
use Rattle.zq_hat.specs.Sourced.{asked_listings, is_asked}
use Rattle.zq_hat.proofs.asked.Asked.faces_queriers.Given as goal

abbrev pub invariant-loop-number : goal.invariant-loop-number
invariant-loop-number l =
    fold with_listing l.all (filter (is_asked l.self.key.now) (asked_listings l.strategy l.interests l.number-iterator))
    ≡ fold with_listing [] (filter (is_asked l.self.key.now) (asked_listings l.strategy l.interests l.faces.entries))
