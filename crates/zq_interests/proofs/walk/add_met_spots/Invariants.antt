use Rattle.zq_interests.specs.Kept.{spots_at, with_spot}
use Rattle.zq_interests.proofs.Walking.{Stands, spots_miss}
use Rattle.zq_interests.proofs.walk.add_met_spots.Given as goal

abbrev pub invariant-loop-key : goal.invariant-loop-key
invariant-loop-key l = record {
  next : goal.iterator-loop-key.can_next l.rest;
  finite : goal.iterator-loop-key.is_finite l.rest;
  stands : Stands with_spot l.q (spots_at l.q) (spots_miss l.q) l.lists l.initial.found l.keys.entries l.found l.rest;
}
