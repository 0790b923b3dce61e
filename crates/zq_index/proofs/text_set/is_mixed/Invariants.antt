use Rattle.std.proofs.Common.{◌≡◌, drop, false}
use Rattle.zq_index.specs.Texts.{mixed_after}
use Rattle.zq_index.proofs.text_set.is_mixed.Given as goal

abbrev pub invariant-loop-byte : goal.invariant-loop-byte
invariant-loop-byte l = mixed_after l.tame (drop l.byte-index l.text) ≡ mixed_after false l.text
