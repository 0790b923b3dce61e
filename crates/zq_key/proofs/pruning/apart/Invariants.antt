use Rattle.std.proofs.Common.{◌≤◌, length}
use Rattle.zq_key.proofs.Apart.{AgreesTo}
use Rattle.zq_key.proofs.pruning.apart.Given as goal

abbrev pub invariant-loop-k : goal.invariant-loop-k
invariant-loop-k l = record {
  within : l.k ≤ length l.key;
  agrees : AgreesTo l.text l.key l.k;
}
