use Rattle.std.proofs.Common.{◌≡◌, take}
use Rattle.std.specs.List.{filter_map}
use Rattle.zq_query.specs.FaceEntries.{has_key}
use Rattle.zq_query.specs.Tables.{Due, due_cmp}
use Rattle.zq_query.specs.DueEntries.{due_at}
use Rattle.zq_query.proofs.queries.poll.dues_set.Given as goal

abbrev pub invariant-loop-place : goal.invariant-loop-place
invariant-loop-place l = (q : Due) → has_key due_cmp q l.set.keys ≡ has_key due_cmp q (filter_map (due_at l.pending.entries) (take l.place-index l.places))
