use Rattle.std.proofs.Common.{◌≡◌, length, false}
use Rattle.zq_key.specs.Key.{chunks}
use Rattle.zq_key.specs.Checks.{chunks_fit}
use Rattle.zq_key.proofs.check.is_key.Given as goal

abbrev pub invariant-loop-chunk : goal.invariant-loop-chunk
invariant-loop-chunk l = chunks_fit false (chunks l.text) ≡ chunks_fit l.after_stars (chunks l.rest)

abbrev pub decreases-loop-chunk : goal.decreases-loop-chunk
decreases-loop-chunk l = length l.rest
