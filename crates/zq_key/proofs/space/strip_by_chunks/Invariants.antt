use Rattle.std.proofs.Common.{◌≡◌, length}
use Rattle.std.specs.Str.{IsUtf8}
use Rattle.zq_key.specs.Space.{strip}
use Rattle.zq_key.proofs.space.strip_by_chunks.Given as goal

abbrev pub invariant-chunks : goal.invariant-chunks
invariant-chunks l = (strip l.ns l.key ≡ strip l.head l.rest) × IsUtf8 l.rest

abbrev pub decreases-chunks : goal.decreases-chunks
decreases-chunks l = length l.rest
