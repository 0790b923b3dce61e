use Rattle.zq_tests_threads.specs.Callers.{IsReady}
use Rattle.zq_tests_threads.proofs.callers.make_calls.Given as goal

abbrev pub invariant-loop-call : goal.invariant-loop-call
invariant-loop-call g l = IsReady g.H.Home.holds l.caller.seat l.caller.tally
