use Rattle.std.proofs.Common.{◌≡◌, ◌++◌, drop}
use Rattle.zq_index.specs.Skipping.{run_of}
use Rattle.zq_index.proofs.search.push_run.Given as goal

abbrev pub invariant-loop-byte : goal.invariant-loop-byte
invariant-loop-byte l = l.bytes.items ++ run_of (drop l.byte-index l.left) ≡ l.initial.bytes.items ++ run_of l.left
