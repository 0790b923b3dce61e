use Rattle.std.proofs.Common.{◌≡◌, []}
use Rattle.zq_tests_threads.proofs.seats.give_all.Given as goal

abbrev pub invariant-loop-call : goal.invariant-loop-call
invariant-loop-call l = record {
  seat : l.seat.home ≡ l.initial.seat.home;
  shared : l.shared.slots.keeper.home ≡ l.initial.shared.slots.keeper.home;
  empty : l.seat.held ≡ [];
}
