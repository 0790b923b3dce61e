use Rattle.std.proofs.Common.{◌≡◌, fold}
use Rattle.zq_hat.specs.Asked.{holder_listings}
use Rattle.zq_hat.specs.Listings.{with_listing}
use Rattle.zq_hat.proofs.asked.Declarers.add_holders.Given as goal

abbrev pub invariant-loop-place : goal.invariant-loop-place
invariant-loop-place l =
    fold with_listing l.all (holder_listings l.self.strategy l.self.faces.now.entries (l.key, l.place-iterator))
    ≡ fold with_listing l.initial.all (holder_listings l.self.strategy l.self.faces.now.entries (l.key, l.held.entries))
