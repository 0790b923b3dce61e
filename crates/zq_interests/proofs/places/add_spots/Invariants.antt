use Rattle.std.proofs.Common.{◌≡◌, fold, map}
use Rattle.zq_index.specs.Holders.{Place}
use Rattle.zq_interests.specs.Kept.{with_spot}
use Rattle.zq_interests.proofs.places.add_spots.Given as goal

abbrev pub invariant-loop-place : goal.invariant-loop-place
invariant-loop-place l = fold with_spot l.found (map (λ (p : Place). (p, l.key)) l.place-iterator) ≡ fold with_spot l.initial.found (map (λ (p : Place). (p, l.key)) l.places.keys)
