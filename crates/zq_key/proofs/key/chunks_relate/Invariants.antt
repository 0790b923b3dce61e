use Rattle.std.proofs.Common.{◌≡◌, length}
use Rattle.zq_key.specs.Chunks.{chunks_left, keys_relate}
use Rattle.zq_key.proofs.key.chunks_relate.Given as goal

abbrev pub invariant-loop-p : goal.invariant-loop-p
invariant-loop-p l = keys_relate l.relation (chunks_left l.a) (chunks_left l.b) ≡ keys_relate l.relation (chunks_left l.p) (chunks_left l.q)

abbrev pub decreases-loop-p : goal.decreases-loop-p
decreases-loop-p l = length l.p
