use Rattle.std.proofs.Common.{◌≡◌, ◌+◌, List, ap, sym, subst, arith}
use Rattle.zq_hold.specs.Seats.{Ended}
use Rattle.zq_shared.specs.Holding.{Lasts}
use Rattle.zq_shared.specs.Stored.{waiting}
use Rattle.zq_shared.specs.Lending.{LetsGo}
use Rattle.zq_shared.proofs.Lending.{lets_go, lets_last}
use Rattle.zq_shared.proofs.telling.release_one.Goals as goal

pub returns-in-Some-release_kept-clause-more : goal.returns-in-Some-release_kept-clause-more
returns-in-Some-release_kept-clause-more c = (λ m go.
    (let counted = c.pending_of.ensures in
    let few = c.if-pending_of-gt0.false in
    let none : waiting c.args.journal.now c.in-Some.number ≡ 0 = omega (arith, counted, few) in
    subst (λ (l : List Ended). LetsGo c.args.journal.now m c.release_kept.new.self l (c.args.slot.0 + 1)) (sym (ap (λ (l : Lasts). l.ended) c.push.ensures))
    (lets_last c.args.journal.now m c.args.slots.now c.args.lasts.now.ended c.args.slot.0 go c.in-Some.number c.release_kept.new.self.keeper.ended c.release_kept.new.self
    c.in-Some.ensures.some.1 c.in-Some.ensures.some.0 none c.release_kept.ensures.keeper c.in-Some-release_kept.last c.in-Some-release_kept.ensures.last.0 c.in-Some-release_kept.ensures.last.1)))

pub returns-in_default-release_kept-clause-more : goal.returns-in_default-release_kept-clause-more
returns-in_default-release_kept-clause-more c = (λ m go.
    (let counted = c.pending_of.ensures in
    let few = c.if-pending_of-gt0.false in
    let none : waiting c.args.journal.now c.in-Some.number ≡ 0 = omega (arith, counted, few) in
    lets_go c.args.journal.now m c.args.slots.now c.args.lasts.now.ended c.args.slot.0 go c.in-Some.number c.release_kept.new.self.keeper.ended c.release_kept.new.self
    c.in-Some.ensures.some.1 c.in-Some.ensures.some.0 none c.release_kept.ensures.keeper c.in_default-release_kept.ensures.none.0 c.in_default-release_kept.ensures.none.1))
