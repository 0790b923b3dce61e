use Rattle.std.proofs.Common.{◌<◌, List, ◌∙◌, ap, sym, subst, arith, eq-eqb}
use Rattle.zq_hold.specs.declared.slot.Slot.{Slot}
use Rattle.zq_hold.specs.Seats.{Holder}
use Rattle.zq_hold.specs.Slots.{times, weight}
use Rattle.zq_shared.specs.Holding.{places}
use Rattle.zq_shared.proofs.Holding.{held_more, one_owner}
use Rattle.zq_shared.proofs.hold.hold_for.Goals as goal

pub returns-then-is_held-clause-holds : goal.returns-then-is_held-clause-holds
returns-then-is_held-clause-holds c = (λ k owns.
    (let e = one_owner c.args.number c.args.slots.now.owners c.in-Some.slot.0 k c.in-Some.ensures.some.1 owns (c.recall.ensures.slotted.once c.args.number) in
    let held = subst (λ (l : List Slot). 0 < times c.in-Some.slot.0 (places l)) c.as_slice.ensures.value (c.is_held.ensures.yes c.if-is_held.true) in
    let same = c.requires.same c.in-Some.slot.0 in
    let here : 0 < times c.in-Some.slot.0 c.args.seat.now.held = omega (arith, held, same) in
    subst (λ i. 0 < times i c.args.seat.now.held) e here))

pub returns-clause-same : goal.returns-clause-same
returns-clause-same c = (λ k.
    ap (λ (h : Holder). times k h.held) c.hold.ensures.seat
    ∙ held_more c.args.held.now.items c.args.seat.now.held c.in-Some.slot c.requires.same k
    ∙ ap (λ (l : List Slot). times k (places l)) (sym c.push_reserved.ensures.items))

pub returns-clause-holds : goal.returns-clause-holds
returns-clause-holds c = (λ k owns.
    (let e = one_owner c.args.number c.args.slots.now.owners c.in-Some.slot.0 k c.in-Some.ensures.some.1 owns (c.recall.ensures.slotted.once c.args.number) in
    let seat = ap (λ (h : Holder). times k h.held) c.hold.ensures.seat in
    let here = ap weight (eq-eqb c.in-Some.slot.0 k e) in
    omega (arith, seat, here)))
