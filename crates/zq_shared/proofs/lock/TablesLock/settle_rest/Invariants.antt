use Rattle.std.proofs.Common.{◌≡◌, All, length}
use Rattle.zq_hold.specs.Seats.{Ended}
use Rattle.zq_shared.specs.Sending.{DeliversFinals}
use Rattle.zq_shared.proofs.lock.TablesLock.settle_rest.Given as goal

abbrev pub invariant-lasts : goal.invariant-lasts
invariant-lasts g l =
    All (λ (e : Ended). e.home ≡ g.H.Home.holds) l.lasts.ended
    × DeliversFinals g.H.Home.config g.H.Home.list (record { taken = g.L.Link.taken l.initial.link; faults = g.L.Link.faults l.initial.link; sent = l.initial.sent }) (record { taken = g.L.Link.taken l.link; faults = g.L.Link.faults l.link; sent = l.sent })

abbrev pub decreases-lasts : goal.decreases-lasts
decreases-lasts g l = length l.lasts.ended
