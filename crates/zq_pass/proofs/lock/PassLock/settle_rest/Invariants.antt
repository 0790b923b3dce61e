use Rattle.std.proofs.Common.{◌≡◌, All, length, None}
use Rattle.zq_hold.specs.Seats.{Ended}
use Rattle.zq_shared.specs.Sending.{DeliversFinals}
use Rattle.zq_pass.proofs.lock.PassLock.settle_rest.Given as goal

abbrev pub invariant-lasts : goal.invariant-lasts
invariant-lasts g l =
    All (λ (e : Ended). e.home ≡ g.H.PassHome.home.holds) l.lasts.ended
    × DeliversFinals g.H.PassHome.config None (record { taken = g.L.Link.taken l.initial.link; faults = g.L.Link.faults l.initial.link; sent = l.initial.sent }) (record { taken = g.L.Link.taken l.link; faults = g.L.Link.faults l.link; sent = l.sent })

abbrev pub decreases-lasts : goal.decreases-lasts
decreases-lasts g l = length l.lasts.ended
