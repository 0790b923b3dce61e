use Rattle.std.proofs.Common.{◌≡◌, ap, Some}
use Rattle.std.proofs.lemmas.List.Elements.{All-pop, All-push, All-same}
use Rattle.zq_hold.specs.Seats.{Ended}
use Rattle.zq_shared.specs.Holding.{Lasts}
use Rattle.zq_shared.specs.Answers.{IsFinal}
use Rattle.zq_shared.proofs.locked.Locked.settle_some.Goals as goal

pub returns-in_default-clause-finals : goal.returns-in_default-clause-finals
returns-in_default-clause-finals g c = All-same (IsFinal g.H.Home.config g.H.Home.list) c.reserve.new.self.items c.lasts.finals.items c.reserve.ensures.items c.lasts.invariant.0

pub settle-requires : goal.settle-requires
settle-requires g c = (All-pop (λ (e : Ended). e.home ≡ g.H.Home.holds) c.lasts.lasts.ended c.take.new.self.ended (Some c.in-Some.last) (ap (λ (l : Lasts). l.ended) c.in-Some.ensures.some) c.lasts.invariant.1).1

pub lasts-preserved-in-Some-settle : goal.lasts-preserved-in-Some-settle
lasts-preserved-in-Some-settle g c =
    let kept = All-same (IsFinal g.H.Home.config g.H.Home.list) c.reserve.new.self.items c.lasts.finals.items c.reserve.ensures.items c.lasts.invariant.0 in (
      All-same (IsFinal g.H.Home.config g.H.Home.list) c.push_reserved.new.self.items _ c.push_reserved.ensures.items (All-push (IsFinal g.H.Home.config g.H.Home.list) c.reserve.new.self.items c.in-Some-settle.end kept c.in-Some-settle.ensures),
      (All-pop (λ (e : Ended). e.home ≡ g.H.Home.holds) c.lasts.lasts.ended c.take.new.self.ended (Some c.in-Some.last) (ap (λ (l : Lasts). l.ended) c.in-Some.ensures.some) c.lasts.invariant.1).0,
    )

pub lasts-preserved : goal.lasts-preserved
lasts-preserved g c = (
  All-same (IsFinal g.H.Home.config g.H.Home.list) c.reserve.new.self.items c.lasts.finals.items c.reserve.ensures.items c.lasts.invariant.0,
  (All-pop (λ (e : Ended). e.home ≡ g.H.Home.holds) c.lasts.lasts.ended c.take.new.self.ended (Some c.in-Some.last) (ap (λ (l : Lasts). l.ended) c.in-Some.ensures.some) c.lasts.invariant.1).0,
)

pub returns-clause-finals : goal.returns-clause-finals
returns-clause-finals g c = All-same (IsFinal g.H.Home.config g.H.Home.list) c.reserve.new.self.items c.lasts.finals.items c.reserve.ensures.items c.lasts.invariant.0
