use Rattle.std.proofs.Common.{◌≡◌, [], fold}
use Rattle.zq_index.specs.Texts.{texts_of}
use Rattle.zq_hat.specs.Listings.{with_listing}
use Rattle.zq_hat.specs.Sourced.{routed_listings}
use Rattle.zq_hat.proofs.queryables.routers_queryables.Given as goal

abbrev pub invariant-loop-key : goal.invariant-loop-key
invariant-loop-key l = fold with_listing l.all (routed_listings l.own (texts_of l.key-iterator)) ≡ fold with_listing [] (routed_listings l.own l.entries)
