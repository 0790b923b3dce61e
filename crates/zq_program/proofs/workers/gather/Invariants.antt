use Rattle.std.proofs.Common.{◌≡◌}
use Rattle.zq_program.specs.Shares.{gathered}
use Rattle.zq_program.specs.Working.{all_sent, all_whole}
use Rattle.zq_program.proofs.workers.gather.Given as goal

abbrev pub invariant-loop-worker : goal.invariant-loop-worker
invariant-loop-worker g l = record {
  tally : l.tally ≡ gathered l.initial.tally l.yielded;
  whole : l.ended.whole ≡ all_whole l.yielded;
  sent : l.ended.sent ≡ all_sent l.yielded;
}
