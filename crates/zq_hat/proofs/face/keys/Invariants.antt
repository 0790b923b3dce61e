use Rattle.std.proofs.Common.{◌≡◌, map, true, ◌++◌}
use Rattle.std.specs.List.{AllByRecursion}
use Rattle.zq_key.specs.Key.{is_key}
use Rattle.zq_strategy.specs.Kept.{key_of}
use Rattle.zq_hat.proofs.face.keys.Given as goal

abbrev pub invariant-loop-declaration : goal.invariant-loop-declaration
invariant-loop-declaration l = record {
  joined : l.keys ++ map key_of l.declaration-iterator ≡ map key_of l.declared.entries;
  valid : AllByRecursion (λ k. is_key k ≡ true) l.keys;
}
