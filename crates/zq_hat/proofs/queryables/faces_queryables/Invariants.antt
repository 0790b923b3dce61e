use Rattle.std.proofs.Common.{◌≡◌, [], fold}
use Rattle.zq_hat.specs.Listings.{with_listing}
use Rattle.zq_hat.specs.Sourced.{declared_listings}
use Rattle.zq_hat.proofs.queryables.faces_queryables.Given as goal

abbrev pub invariant-loop-face : goal.invariant-loop-face
invariant-loop-face l = fold with_listing l.all (declared_listings l.strategy l.face-iterator) ≡ fold with_listing [] (declared_listings l.strategy l.faces.entries)
