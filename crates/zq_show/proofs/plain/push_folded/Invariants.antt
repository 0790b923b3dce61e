use Rattle.std.proofs.Common.{◌≡◌, ◌++◌, drop}
use Rattle.zq_show.specs.Plain.{folded}
use Rattle.zq_show.proofs.plain.push_folded.Given as goal

abbrev pub invariant-loop-byte : goal.invariant-loop-byte
invariant-loop-byte l = l.out.items ++ folded l.column (drop l.byte-index l.bytes) ≡ l.fn.out.items ++ folded 0 l.bytes
