use Rattle.std.proofs.Common.{◌≡◌, ◌++◌}
use Rattle.std.specs.Map.{keys_of}
use Rattle.zq_query.specs.FaceEntries.{entries_of_face}
use Rattle.zq_query.proofs.queries.close.places_in.Given as goal

abbrev pub invariant-loop-place : goal.invariant-loop-place
invariant-loop-place l = l.places.items ++ keys_of l.place-iterator ≡ keys_of (entries_of_face l.face l.pending.entries)
