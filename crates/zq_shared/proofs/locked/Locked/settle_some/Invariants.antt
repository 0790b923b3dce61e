use Rattle.std.proofs.Common.{◌≡◌, All, length}
use Rattle.zq_hold.specs.Seats.{Ended}
use Rattle.zq_shared.specs.Answers.{AllFinals}
use Rattle.zq_shared.proofs.locked.Locked.settle_some.Given as goal

abbrev pub invariant-lasts : goal.invariant-lasts
invariant-lasts g l = AllFinals g.H.Home.config g.H.Home.list l.finals.items × All (λ (e : Ended). e.home ≡ g.H.Home.holds) l.lasts.ended

abbrev pub decreases-lasts : goal.decreases-lasts
decreases-lasts g l = length l.lasts.ended
