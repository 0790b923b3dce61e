use Rattle.std.proofs.Common.{◌≡◌, filter, fold}
use Rattle.std.specs.List.{filter_map}
use Rattle.zq_hat.specs.Listings.{with_listing}
use Rattle.zq_hat.specs.Sourced.{asked_listing, is_asked}
use Rattle.zq_hat.proofs.asked.Asked.add_asked.Given as goal

abbrev pub invariant-loop-interest : goal.invariant-loop-interest
invariant-loop-interest l =
    fold with_listing l.all (filter (is_asked l.self.key.now) (filter_map (asked_listing l.source) l.interest-iterator))
    ≡ fold with_listing l.initial.all (filter (is_asked l.self.key.now) (filter_map (asked_listing l.source) l.interests.entries))
