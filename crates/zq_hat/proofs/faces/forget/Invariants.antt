use Rattle.std.proofs.Common.{◌≡◌, fold}
use Rattle.zq_hat.specs.Tied.{without_declared}
use Rattle.zq_hat.proofs.faces.forget.Given as goal

abbrev pub invariant-loop-id : goal.invariant-loop-id
invariant-loop-id l = fold (without_declared l.number) l.index l.id-iterator ≡ fold (without_declared l.number) l.initial.index l.declared.entries
