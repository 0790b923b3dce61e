use Rattle.std.proofs.Common.{◌≡◌, ℕ, ◌≤◌, ◌-◌, List, [], take, ◌∙◌, ap, sym, subst}
use Rattle.std.proofs.lemmas.List.{append-nil}
use Rattle.zq_hold.specs.declared.slot.Slot.{Slot}
use Rattle.zq_hold.specs.Seats.{Holder}
use Rattle.zq_hold.specs.Slots.{times}
use Rattle.zq_shared.specs.Holding.{AreHeld}
use Rattle.zq_shared.proofs.Holds.{all_released, last_held, rest_held, rest_once}
use Rattle.zq_shared.proofs.Mails.{finals_on}
use Rattle.zq_shared.proofs.lock.TablesLock.release_all.Goals as goal

pub release-requires : goal.release-requires
release-requires g c =
    let i = c.slots.invariant in
    last_held c.slots.held.items c.pop.new.self.items c.in-Some.slot c.slots.seat.held c.in-Some.ensures.items i.held

pub slots-preserved-in-Some-release : goal.slots-preserved-in-Some-release
slots-preserved-in-Some-release g c =
    let i = c.slots.invariant in
    let now = sym (ap (λ (s : Holder). s.held) c.release.ensures.seat) in
    record {
      home = ap (λ (s : Holder). s.home) c.release.ensures.seat ∙ i.home;
      held = subst (AreHeld c.pop.new.self.items) now (rest_held c.slots.held.items c.pop.new.self.items c.in-Some.slot c.slots.seat.held c.in-Some.ensures.items i.held i.once);
      once = λ k. subst (λ (l : List ℕ). times k l ≤ 1) now (rest_once c.slots.held.items c.pop.new.self.items c.in-Some.slot c.slots.seat.held c.in-Some.ensures.items i.held i.once k);
      sends = finals_on g.H.Home.config g.H.Home.list (record { taken = g.L.Link.taken c.args.link.now; faults = g.L.Link.faults c.args.link.now; sent = c.args.sent }) (record { taken = g.L.Link.taken c.slots.link; faults = g.L.Link.faults c.slots.link; sent = c.slots.sent }) (record { taken = g.L.Link.taken c.settle_one-sent.new.link; faults = g.L.Link.faults c.settle_one-sent.new.link; sent = c.settle_one-sent.result }) i.sends c.settle_one-sent.ensures;
    }

pub slots-preserved : goal.slots-preserved
slots-preserved g c =
    let i = c.slots.invariant in
    let now = sym (ap (λ (s : Holder). s.held) c.release.ensures.seat) in
    record {
      home = ap (λ (s : Holder). s.home) c.release.ensures.seat ∙ i.home;
      held = subst (AreHeld c.pop.new.self.items) now (rest_held c.slots.held.items c.pop.new.self.items c.in-Some.slot c.slots.seat.held c.in-Some.ensures.items i.held i.once);
      once = λ k. subst (λ (l : List ℕ). times k l ≤ 1) now (rest_once c.slots.held.items c.pop.new.self.items c.in-Some.slot c.slots.seat.held c.in-Some.ensures.items i.held i.once k);
      sends = i.sends;
    }

pub returns-clause-free : goal.returns-clause-free
returns-clause-free g c =
    let i = c.slots.invariant in
    let e = c.in_default.ensures in
    let none : c.slots.held.items ≡ [] = e.items ∙ (append-nil c.pop.new.self.items ∙ (e.rest ∙ ap (λ n. take (n - 1) c.slots.held.items) e.cases.0)) in
    all_released c.slots.seat.held (subst (λ (l : List Slot). AreHeld l c.slots.seat.held) none i.held)
