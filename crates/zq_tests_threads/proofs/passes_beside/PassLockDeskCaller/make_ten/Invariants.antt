use Rattle.zq_tests_threads.specs.Passing.{MayPass}
use Rattle.zq_tests_threads.proofs.passes_beside.PassLockDeskCaller.make_ten.Given as goal

abbrev pub invariant-moments : goal.invariant-moments
invariant-moments g l = MayPass g.H.PassHome.home l.caller.pass l.caller.made.parts
