use Rattle.std.proofs.Common.{◌≡◌, fold}
use Rattle.zq_interests.specs.Kept.{with_face}
use Rattle.zq_interests.proofs.places.add_faces.Given as goal

abbrev pub invariant-loop-place : goal.invariant-loop-place
invariant-loop-place l = fold with_face l.found.keys l.place-iterator ≡ fold with_face l.initial.found.keys l.places.keys
