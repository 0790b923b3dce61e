use Rattle.std.proofs.Common.{◌≡◌}
use Rattle.std.specs.List.{list_any}
use Rattle.zq_hat.specs.Status.{is_match}
use Rattle.zq_hat.proofs.status.any_matches.Given as goal

abbrev pub invariant-loop-declaration : goal.invariant-loop-declaration
invariant-loop-declaration l = list_any (is_match l.key l.complete) l.declaration-iterator ≡ list_any (is_match l.key l.complete) l.declared.entries
