use Rattle.std.proofs.Common.{arith}
use Rattle.zq_index.proofs.ForkLemmas.{leads_first}
use Rattle.zq_index.proofs.forks.fork.Goals as goal

pub loop-at-init : goal.loop-at-init
loop-at-init c = record {
  leads = leads_first c.args.text.now c.args.q.now;
  held = λ p d more from to above. absurd (omega (arith, to));
  within = omega arith;
}
