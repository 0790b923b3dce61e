use denote.Exit as Exit
use denote.Param.{param}
use denote.Param.Send.{arg_sync, param_sync}
use Rattle.zq_shared.proofs.Crossing.{lock_sync}
use Rattle.zq_tests_threads.proofs.stage.play_on.Goals as goal

pub play-requires-sync-K : goal.play-requires-sync-K
play-requires-sync-K g c κs l = param_sync 0 _ (arg_sync _ Exit.no _ (lock_sync (param 0 g.row.H) (param 1 g.row.C) (param 2 g.row.Q) (param 3 g.row.P) g.H.Home g.C.Ledger g.Q.Ledger g.P.Ledger c.type_bounds.send-H))
