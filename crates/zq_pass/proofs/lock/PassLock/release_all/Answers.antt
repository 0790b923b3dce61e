use Rattle.std.proofs.Common.{◌≡◌, ℕ, ◌≤◌, ◌-◌, List, [], take, ◌∙◌, ap, sym, subst, None}
use Rattle.std.proofs.lemmas.List.{append-nil}
use Rattle.zq_hold.specs.declared.slot.Slot.{Slot}
use Rattle.zq_hold.specs.Slots.{times, without}
use Rattle.zq_shared.specs.Holding.{AreHeld}
use Rattle.zq_pass.specs.Passes.{Passing}
use Rattle.zq_shared.proofs.Holds.{all_released, last_held, rest_held, rest_once}
use Rattle.zq_shared.proofs.Mails.{finals_on}
use Rattle.zq_pass.proofs.lock.PassLock.release_all.Goals as goal

-- a pass that let one slot go is what it was at first, but for what it holds and how often it let one go last
let_go : (first now then : Passing) (held : List ℕ) → now ≡ record first { held = now.held; ended = now.ended } → then ≡ record now { held = held; ended = then.ended } → then ≡ record first { held = then.held; ended = then.ended }
let_go first now then held was is =
    is ∙ (ap (λ (p : Passing). record p { held = held; ended = then.ended }) was ∙ ap (λ (h : List ℕ). record first { held = h; ended = then.ended }) (sym (ap (λ (p : Passing). p.held) is)))

pub release-requires : goal.release-requires
release-requires g c =
    let i = c.slots.invariant in
    last_held c.slots.held.items c.pop.new.self.items c.in-Some.slot c.slots.pass.held c.in-Some.ensures.items i.held

pub slots-preserved-in-Some-release : goal.slots-preserved-in-Some-release
slots-preserved-in-Some-release g c =
    let i = c.slots.invariant in
    let now = sym (ap (λ (p : Passing). p.held) c.release.ensures.pass) in
    record {
      pass = let_go c.args.pass.now c.slots.pass c.release.new.self (without c.in-Some.slot.0 c.slots.pass.held) i.pass c.release.ensures.pass;
      held = subst (AreHeld c.pop.new.self.items) now (rest_held c.slots.held.items c.pop.new.self.items c.in-Some.slot c.slots.pass.held c.in-Some.ensures.items i.held i.once);
      once = λ k. subst (λ (l : List ℕ). times k l ≤ 1) now (rest_once c.slots.held.items c.pop.new.self.items c.in-Some.slot c.slots.pass.held c.in-Some.ensures.items i.held i.once k);
      sends = finals_on g.H.PassHome.config None (record { taken = g.L.Link.taken c.args.link.now; faults = g.L.Link.faults c.args.link.now; sent = c.args.sent }) (record { taken = g.L.Link.taken c.slots.link; faults = g.L.Link.faults c.slots.link; sent = c.slots.sent }) (record { taken = g.L.Link.taken c.settle_one-sent.new.link; faults = g.L.Link.faults c.settle_one-sent.new.link; sent = c.settle_one-sent.result }) i.sends c.settle_one-sent.ensures;
    }

pub slots-preserved : goal.slots-preserved
slots-preserved g c =
    let i = c.slots.invariant in
    let now = sym (ap (λ (p : Passing). p.held) c.release.ensures.pass) in
    record {
      pass = let_go c.args.pass.now c.slots.pass c.release.new.self (without c.in-Some.slot.0 c.slots.pass.held) i.pass c.release.ensures.pass;
      held = subst (AreHeld c.pop.new.self.items) now (rest_held c.slots.held.items c.pop.new.self.items c.in-Some.slot c.slots.pass.held c.in-Some.ensures.items i.held i.once);
      once = λ k. subst (λ (l : List ℕ). times k l ≤ 1) now (rest_once c.slots.held.items c.pop.new.self.items c.in-Some.slot c.slots.pass.held c.in-Some.ensures.items i.held i.once k);
      sends = i.sends;
    }

pub returns-clause-pass : goal.returns-clause-pass
returns-clause-pass g c =
    let i = c.slots.invariant in
    let e = c.in_default.ensures in
    let none : c.slots.held.items ≡ [] = e.items ∙ (append-nil c.pop.new.self.items ∙ (e.rest ∙ ap (λ n. take (n - 1) c.slots.held.items) e.cases.0)) in
    let free = all_released c.slots.pass.held (subst (λ (l : List Slot). AreHeld l c.slots.pass.held) none i.held) in
    i.pass ∙ ap (λ (h : List ℕ). record c.args.pass.now { held = h; ended = c.slots.pass.ended }) free
