use Rattle.std.proofs.Common.{◌+◌, sym, ap, ◌∙◌, refl}
use Rattle.zq_shared.proofs.Locks.{answered, locked_ask, locked_other}
use Rattle.zq_shared.proofs.locked.Locked.perform.Goals as goal

pub returns-after-asks-clause-step : goal.returns-after-asks-clause-step
returns-after-asks-clause-step g c =
    let b = c.bound.ensures.made in
    let a = answered g.H.Home.config g.H.Home.holds g.H.Home.list c.self.inside.shared c.step.new.self _ c.args.tally.now.made c.self.invariant b.0 b.1 c.args.call in
    (a.0, c.in-Ok.ensures.step ∙ a.1, a.2)

pub invariant_of-self : goal.invariant_of-self
invariant_of-self g c =
    let s = c.in-Ok.ensures in
    let b = c.bound.ensures.books in
    locked_ask g.H.Home.config g.H.Home.holds g.H.Home.list c.self.inside.shared c.step.new.self _ c.args.call _ c.self.invariant c.requires.unsent c.requires.listed s.stored s.same refl (sym c.if-asks.ensures) b.0 (c.add_ask.ensures.book ∙ ap (λ n. n + 1) b.1)

pub invariant_of-self-else-asks : goal.invariant_of-self-else-asks
invariant_of-self-else-asks g c =
    let s = c.in-Ok.ensures in
    let b = c.bound.ensures.books in
    locked_other g.H.Home.config g.H.Home.holds g.H.Home.list c.self.inside.shared c.step.new.self _ c.args.call _ c.self.invariant c.requires.unsent c.requires.listed s.stored s.same refl (sym c.if-asks.ensures) (c.add_other.ensures.book ∙ ap (λ n. n + 1) b.0) b.1
