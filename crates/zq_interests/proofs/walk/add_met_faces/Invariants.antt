use Rattle.zq_interests.specs.Kept.{met_at, with_face}
use Rattle.zq_interests.proofs.Walking.{Stands, faces_miss}
use Rattle.zq_interests.proofs.walk.add_met_faces.Given as goal

abbrev pub invariant-loop-key : goal.invariant-loop-key
invariant-loop-key l = record {
  next : goal.iterator-loop-key.can_next l.rest;
  finite : goal.iterator-loop-key.is_finite l.rest;
  stands : Stands with_face l.q (met_at l.q) (faces_miss l.q) l.lists l.initial.found.keys l.keys.entries l.found.keys l.rest;
}
