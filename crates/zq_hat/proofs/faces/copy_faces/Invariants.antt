use Rattle.std.proofs.Common.{◌≡◌, fold, []}
use Rattle.std.specs.Ordering.{nat_cmp}
use Rattle.zq_index.proofs.Rebuilt.{put_entry}
use Rattle.zq_hat.proofs.faces.copy_faces.Given as goal

abbrev pub invariant-loop-number : goal.invariant-loop-number
invariant-loop-number l = fold (put_entry nat_cmp) l.made.entries l.number-iterator ≡ fold (put_entry nat_cmp) [] l.faces.entries
