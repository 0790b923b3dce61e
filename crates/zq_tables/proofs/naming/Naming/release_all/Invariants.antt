use Rattle.std.proofs.Common.{◌≡◌, length}
use Rattle.zq_tables.specs.Holding.{held_keys, without_keys}
use Rattle.zq_tables.specs.Naming.{face_keys}
use Rattle.zq_tables.proofs.Emptied.{changed}
use Rattle.zq_tables.proofs.naming.Naming.release_all.Given as goal

abbrev pub invariant-loop-id : goal.invariant-loop-id
invariant-loop-id l = changed l.face.0 (without_keys l.holder) l.self ≡ changed l.face.0 (without_keys l.holder) l.fn.self

abbrev pub decreases-loop-id : goal.decreases-loop-id
decreases-loop-id l = length (held_keys l.holder (face_keys l.face.0 l.self))
