use Rattle.zq_strategy.proofs.Walking.{Stands}
use Rattle.zq_strategy.proofs.met.gather_all.Given as goal

abbrev pub invariant-loop-key : goal.invariant-loop-key
invariant-loop-key g l = record {
  next : (goal.iterator-loop-key g).can_next l.rest;
  finite : (goal.iterator-loop-key g).is_finite l.rest;
  stands : Stands (g.G.Gather.gathers l.source l.q) l.q l.lists l.fn.found l.keys.entries l.found l.rest;
}
