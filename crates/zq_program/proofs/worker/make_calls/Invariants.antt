use Rattle.std.proofs.Common.{◌≡◌, ◌++◌, []}
use Rattle.zq_program.specs.Faults.{HasFaults}
use Rattle.zq_program.specs.Working.{HasMade}
use Rattle.zq_program.proofs.worker.make_calls.Given as goal

abbrev pub invariant-loop-call : goal.invariant-loop-call
invariant-loop-call g l = record {
  home : l.seat.home ≡ g.H.Home.holds;
  empty : l.seat.held ≡ [];
  parts : l.tally.parts ≡ l.initial.tally.parts;
  left : l.fn.calls.items ≡ l.yielded ++ l.call-iterator.rest.items;
  made : HasMade l.yielded l.initial.tally.made l.tally.made;
  faults : HasFaults l.sent (g.L.Link.faults l.initial.link) (g.L.Link.faults l.link);
}
