use Rattle.std.proofs.Common.{◌≤◌}
use Rattle.zq_index.specs.Forks.{IsHeld, Leads}
use Rattle.zq_index.proofs.forks.fork.Given as goal

abbrev pub invariant-loop-at : goal.invariant-loop-at
invariant-loop-at l = record {
  leads : Leads l.text l.q l.at l.mode l.j;
  held : IsHeld l.text l.q l.held l.at;
  within : l.held ≤ l.at;
}
