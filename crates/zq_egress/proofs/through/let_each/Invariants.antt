use Rattle.std.proofs.Common.{◌≤◌, length, vec_capacity}
use Rattle.zq_egress.proofs.Going.{Reached}
use Rattle.zq_egress.proofs.through.let_each.Given as goal

abbrev pub invariant-loop-message : goal.invariant-loop-message
invariant-loop-message l = record {
  reached : Reached l.text l.handed l.initial.gates.entries l.exits.items l.gates.entries l.message-index;
  room : length l.handed ≤ vec_capacity l.exits;
}
