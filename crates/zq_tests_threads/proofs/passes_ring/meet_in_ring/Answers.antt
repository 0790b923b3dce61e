use Rattle.zq_tests_threads.proofs.GoingRound.{go_on, still}
use Rattle.zq_tests_threads.proofs.passes_ring.meet_in_ring.Goals as goal

pub returns-clause-a : goal.returns-clause-a
returns-clause-a c =
    let first = go_on c.args.a.now c.args.b.now c.args.c.now c.args.d.now c.go_round.new.d.seen c.pass_on.new.second.seen c.go_round.ensures.last c.pass_on.ensures.theirs in
    still c.args.a.now c.args.b.now c.args.c.now c.args.d.now c.pass_on-2.new.first c.pass_on.new.second c.pass_on-2.ensures.first first

pub returns-clause-b : goal.returns-clause-b
returns-clause-b c =
    let first = go_on c.args.a.now c.args.b.now c.args.c.now c.args.d.now c.go_round.new.d.seen c.pass_on.new.second.seen c.go_round.ensures.last c.pass_on.ensures.theirs in
    let second = go_on c.args.a.now c.args.b.now c.args.c.now c.args.d.now c.pass_on.new.second.seen c.pass_on-2.new.second.seen first c.pass_on-2.ensures.theirs in
    still c.args.a.now c.args.b.now c.args.c.now c.args.d.now c.pass_on-3.new.first c.pass_on-2.new.second c.pass_on-3.ensures.first second

pub returns-clause-c : goal.returns-clause-c
returns-clause-c c =
    let first = go_on c.args.a.now c.args.b.now c.args.c.now c.args.d.now c.go_round.new.d.seen c.pass_on.new.second.seen c.go_round.ensures.last c.pass_on.ensures.theirs in
    let second = go_on c.args.a.now c.args.b.now c.args.c.now c.args.d.now c.pass_on.new.second.seen c.pass_on-2.new.second.seen first c.pass_on-2.ensures.theirs in
    go_on c.args.a.now c.args.b.now c.args.c.now c.args.d.now c.pass_on-2.new.second.seen c.pass_on-3.new.second.seen second c.pass_on-3.ensures.theirs

pub returns-clause-d : goal.returns-clause-d
returns-clause-d c = still c.args.a.now c.args.b.now c.args.c.now c.args.d.now c.pass_on.new.first c.go_round.new.d c.pass_on.ensures.first c.go_round.ensures.last
