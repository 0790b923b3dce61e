use Rattle.std.proofs.Common.{◌≡◌, []}
use Rattle.zq_tests_threads.specs.Passing.{MayPass}
use Rattle.zq_tests_threads.proofs.passes_rows.make_in_turn.Given as goal

abbrev pub invariant-turns : goal.invariant-turns
invariant-turns g l = MayPass g.H.PassHome.home l.zero.pass l.zero.made.parts × MayPass g.H.PassHome.home l.one.pass l.one.made.parts
