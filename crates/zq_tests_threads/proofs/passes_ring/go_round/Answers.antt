use Rattle.zq_tests_threads.proofs.GoingRound.{once_round}
use Rattle.zq_tests_threads.proofs.passes_ring.go_round.Goals as goal

pub returns-clause-last : goal.returns-clause-last
returns-clause-last c =
    once_round c.args.a.now c.args.b.now c.args.c.now c.args.d.now c.pass_on.new.second c.pass_on-2.new.second c.pass_on-3.new.second
    c.pass_on.ensures.mine c.pass_on.ensures.theirs c.pass_on-2.ensures.mine c.pass_on-2.ensures.theirs c.pass_on-3.ensures.mine c.pass_on-3.ensures.theirs
