use Rattle.std.proofs.Common.{◌≡◌, ℕ, ◌≤◌, vec_len, None}
use Rattle.zq_hold.specs.Slots.{times}
use Rattle.zq_shared.specs.Holding.{AreHeld}
use Rattle.zq_shared.specs.Sending.{DeliversFinals}
use Rattle.zq_pass.proofs.lock.PassLock.release_all.Given as goal

abbrev pub invariant-slots : goal.invariant-slots
invariant-slots g l = record {
  pass : l.pass ≡ record l.initial.pass { held = l.pass.held; ended = l.pass.ended };
  held : AreHeld l.held.items l.pass.held;
  once : (k : ℕ) → times k l.pass.held ≤ 1;
  sends : DeliversFinals g.H.PassHome.config None (record { taken = g.L.Link.taken l.initial.link; faults = g.L.Link.faults l.initial.link; sent = l.initial.sent }) (record { taken = g.L.Link.taken l.link; faults = g.L.Link.faults l.link; sent = l.sent });
}

abbrev pub decreases-slots : goal.decreases-slots
decreases-slots g l = vec_len l.held
