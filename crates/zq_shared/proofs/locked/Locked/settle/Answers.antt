use Rattle.zq_hold.specs.Owners.{owner_at}
use Rattle.zq_shared.proofs.Locks.{locked_settled, settled_final}
use Rattle.zq_shared.proofs.locked.Locked.settle.Goals as goal

pub invariant_of-self : goal.invariant_of-self
invariant_of-self g c =
    let s = c.settle.ensures in
    locked_settled g.H.Home.config g.H.Home.holds g.H.Home.list c.self.inside.shared c.settle.new.self _ (owner_at c.self.inside.shared.slots.owners c.args.last.slot) c.settle.result c.self.invariant s.reports s.same

pub returns : goal.returns
returns g c =
    let s = c.settle.ensures in
    settled_final g.H.Home.config g.H.Home.holds g.H.Home.list c.self.inside.shared c.settle.new.self _ (owner_at c.self.inside.shared.slots.owners c.args.last.slot) c.settle.result c.self.invariant s.reports
