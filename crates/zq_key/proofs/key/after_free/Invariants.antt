use Rattle.std.proofs.Common.{◌≡◌, length, ◌≤◌}
use Rattle.zq_key.specs.Chunks.{verbatim_left}
use Rattle.zq_key.proofs.key.after_free.Given as goal

abbrev pub invariant-loop-after : goal.invariant-loop-after
invariant-loop-after l = (verbatim_left l.text ≡ verbatim_left l.rest) × (length l.rest ≤ length l.text)

abbrev pub decreases-loop-after : goal.decreases-loop-after
decreases-loop-after l = length l.rest
