use Rattle.std.proofs.Common.{◌≡◌, fold, []}
use Rattle.std.specs.Ordering.{nat_cmp}
use Rattle.zq_index.proofs.Rebuilt.{put_entry}
use Rattle.zq_hat.proofs.face.copy_declared.Given as goal

abbrev pub invariant-loop-id : goal.invariant-loop-id
invariant-loop-id l = fold (put_entry nat_cmp) l.made.entries l.id-iterator ≡ fold (put_entry nat_cmp) [] l.declared.entries
