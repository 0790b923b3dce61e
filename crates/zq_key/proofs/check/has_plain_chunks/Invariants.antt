use Rattle.std.proofs.Common.{◌≡◌, length}
use Rattle.std.specs.List.{list_all}
use Rattle.zq_key.specs.Key.{chunks, is_plain_chunk}
use Rattle.zq_key.proofs.check.has_plain_chunks.Given as goal

abbrev pub invariant-loop-chunk : goal.invariant-loop-chunk
invariant-loop-chunk l = list_all is_plain_chunk (chunks l.text) ≡ list_all is_plain_chunk (chunks l.rest)

abbrev pub decreases-loop-chunk : goal.decreases-loop-chunk
decreases-loop-chunk l = length l.rest
