use Rattle.std.proofs.Common.{◌≡◌, All, length}
use Rattle.zq_hold.specs.Seats.{Ended}
use Rattle.zq_tests_threads.proofs.seats.settle_all.Given as goal

abbrev pub invariant-lasts : goal.invariant-lasts
invariant-lasts l = record {
  ended : All (λ (e : Ended). e.home ≡ l.initial.shared.slots.keeper.home) l.lasts.ended;
  home : l.shared.slots.keeper.home ≡ l.initial.shared.slots.keeper.home;
}

abbrev pub decreases-lasts : goal.decreases-lasts
decreases-lasts l = length l.lasts.ended
