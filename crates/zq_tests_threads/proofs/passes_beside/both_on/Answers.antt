use denote.Exit as Exit
use denote.Param.{param}
use denote.Param.Send.{arg_sync, param_sync}
use Rattle.zq_pass.proofs.Crossing.{lock_sync}
use Rattle.zq_tests_threads.proofs.passes_beside.both_on.Goals as goal

pub both_make-requires-sync-K : goal.both_make-requires-sync-K
both_make-requires-sync-K g c κs l = param_sync 0 _ (arg_sync _ Exit.no _ (lock_sync (param 0 g.row.H) (param 1 g.row.M) g.H.PassHome g.M.Ledger c.type_bounds.send-H))
