use Rattle.std.proofs.Common.{◌≡◌, ℕ, ◌≤◌, vec_len}
use Rattle.zq_hold.specs.Slots.{times}
use Rattle.zq_shared.specs.Holding.{AreHeld}
use Rattle.zq_shared.specs.Sending.{DeliversFinals}
use Rattle.zq_shared.proofs.lock.TablesLock.release_all.Given as goal

abbrev pub invariant-slots : goal.invariant-slots
invariant-slots g l = record {
  home : l.seat.home ≡ g.H.Home.holds;
  held : AreHeld l.held.items l.seat.held;
  once : (k : ℕ) → times k l.seat.held ≤ 1;
  sends : DeliversFinals g.H.Home.config g.H.Home.list (record { taken = g.L.Link.taken l.initial.link; faults = g.L.Link.faults l.initial.link; sent = l.initial.sent }) (record { taken = g.L.Link.taken l.link; faults = g.L.Link.faults l.link; sent = l.sent });
}

abbrev pub decreases-slots : goal.decreases-slots
decreases-slots g l = vec_len l.held
