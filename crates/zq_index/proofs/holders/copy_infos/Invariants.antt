use Rattle.std.proofs.Common.{◌≡◌, fold, []}
use Rattle.zq_index.proofs.Rebuilt.{put_entry}
use Rattle.zq_index.proofs.holders.copy_infos.Given as goal

abbrev pub invariant-loop-place : goal.invariant-loop-place
invariant-loop-place g l = fold (put_entry g.P.Ord.cmp) l.made.entries l.place-iterator ≡ fold (put_entry g.P.Ord.cmp) [] l.infos.entries
