use Rattle.std.proofs.Common.{◌≡◌, ◌<◌, length}
use Rattle.std.specs.Prelude.{IfSome, slice_index}
use Rattle.zq_store.proofs.held.last_slash.Given as goal

abbrev pub invariant-loop-at : goal.invariant-loop-at
invariant-loop-at l = IfSome l.last (λ at. (at < length l.text) × (slice_index l.text at ≡ 47))
