use Rattle.std.proofs.Common.{◌≡◌, ◌-◌}
use Rattle.zq_tables.specs.FaceIds.{free_from}
use Rattle.zq_tables.proofs.face.FaceNames.get_next_local_id.Given as goal

abbrev pub invariant-loop-id : goal.invariant-loop-id
invariant-loop-id l = free_from l.self.theirs l.self.ours 65535 1 ≡ free_from l.self.theirs l.self.ours (65536 - l.id) l.id
