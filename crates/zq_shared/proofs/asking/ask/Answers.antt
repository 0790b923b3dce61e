use Rattle.std.proofs.Common.{◌∙◌, refl, ap, sym, subst, arith, inr}
use Rattle.std.proofs.lemmas.Option.{IfSome_then}
use Rattle.zq_hold.specs.declared.slot.Mark.TheVariants.{Spare}
use Rattle.zq_hold.specs.Slots.{times}
use Rattle.zq_hold.specs.Owners.{Slotted, owned, owner_at, with_mark}
use Rattle.zq_machine.specs.declared.call.Step.{Step}
use Rattle.zq_shared.specs.Stored.{Stored}
use Rattle.zq_shared.specs.Ties.{IsTied, Sharing}
use Rattle.zq_shared.specs.Sharing.{AreLast}
use Rattle.zq_shared.proofs.Ties.{back_tied}
use Rattle.zq_shared.proofs.Asked.{all_used, asked_after, asked_flights, asked_last, back_is, new_unowned, next_free, next_inside, still_flights}
use Rattle.zq_shared.proofs.asking.ask.Goals as goal

pub returns-in-Err-clause-refused : goal.returns-in-Err-clause-refused
returns-in-Err-clause-refused c =
    let all = c.in-Err.ensures.err.1 in
    let used = all_used c.args.slots.now.keeper.marks all in
    let few = c.requires.tied.nearly.used in
    ((c.requires.asks, all), omega (arith, used, few), ap {B = Sharing} (λ (m : Slotted). record { stored = c.args.journal.now; slots = m }) c.in-Err.ensures.err.0)

pub returns-in-Err-clause-flights : goal.returns-in-Err-clause-flights
returns-in-Err-clause-flights c =
    still_flights c.args.journal.now c.args.journal.now refl c.args.slots.now c.allot.new.self (ap (λ (m : Slotted). m.owners) c.in-Err.ensures.err.0)

pub returns-in_default-clause-flights : goal.returns-in_default-clause-flights
returns-in_default-clause-flights c =
    still_flights c.args.journal.now c.step.new.self c.in_default.ensures.same c.args.slots.now c.put_back.new.self
    (ap (λ (m : Slotted). m.owners) (c.put_back.ensures ∙ ap (λ (m : Slotted). with_mark m c.in-Ok.slot.0 Spare) c.in-Ok.ensures.ok.1))

pub returns-in_default-clause-tied : goal.returns-in_default-clause-tied
returns-in_default-clause-tied c =
    let next = c.in-Ok.ensures.ok in
    let back = c.put_back.ensures ∙ ap (λ (m : Slotted). with_mark m c.in-Ok.slot.0 Spare) next.1 in
    subst (λ (s : Stored). IsTied s c.put_back.new.self) (sym c.in_default.ensures.same)
    (subst (λ (m : Slotted). IsTied c.args.journal.now m) (sym back)
    (back_tied c.args.journal.now c.args.slots.now c.requires.tied c.in-Ok.slot.0 (next_inside c.args.slots.now.keeper.marks c.in-Ok.slot.0 next.0)))

pub returns-in_default-clause-refused : goal.returns-in_default-clause-refused
returns-in_default-clause-refused c =
    let next = c.in-Ok.ensures.ok in
    let back = c.put_back.ensures ∙ (ap (λ (m : Slotted). with_mark m c.in-Ok.slot.0 Spare) next.1 ∙ back_is c.args.slots.now c.in-Ok.slot.0) in
    let same = c.in_default.ensures.same in (
      λ full. next_free c.args.slots.now.keeper.marks c.in-Ok.slot.0 next.0 full.1,
      inr (c.in-Ok.slot.0, next.0, (λ i. record { stored = same i; slots = back i })),
    )

pub give_to-requires-clause-new : goal.give_to-requires-clause-new
give_to-requires-clause-new c =
    IfSome_then c.number_of.result c.number_of.ensures.some
    (λ n asked. ap (λ (m : Slotted). owned n m.owners) c.in-Ok.ensures.ok.1
    ∙ new_unowned c.args.journal.now c.args.call c.args.slots.now c.requires.tied c.requires.asks n (ap (λ (t : Step). t.outcome) (sym c.in-Ok-step.ensures.step) ∙ asked.0))

pub returns-clause-tied : goal.returns-clause-tied
returns-clause-tied c =
    let next = c.in-Ok.ensures.ok in
    asked_after c.args.journal.now c.args.call c.args.slots.now c.requires.tied c.requires.asks c.in-Ok.slot.0 c.recall.ensures.slotted next.0
    (ap (λ (m : Slotted). owner_at m.owners c.in-Ok.slot.0) (sym next.1) ∙ c.in-Ok.ensures.free)
    (ap (λ (m : Slotted). times c.in-Ok.slot.0 m.keeper.lent) (sym next.1) ∙ c.in-Ok.ensures.lent)
    c.allot.new.self c.give_to.new.slots c.step.new.self c.in-Ok-step.step c.number_of.result next.1 c.in-Ok-step.ensures.stored c.in-Ok-step.ensures.step
    c.number_of.ensures.some c.number_of.ensures.none c.give_to.ensures.given c.give_to.ensures.back

pub returns-clause-flights : goal.returns-clause-flights
returns-clause-flights c =
    let next = c.in-Ok.ensures.ok in
    asked_flights c.args.journal.now c.args.call c.args.slots.now c.requires.tied c.requires.asks c.in-Ok.slot.0 c.recall.ensures.slotted next.0
    (ap (λ (m : Slotted). owner_at m.owners c.in-Ok.slot.0) (sym next.1) ∙ c.in-Ok.ensures.free)
    (ap (λ (m : Slotted). times c.in-Ok.slot.0 m.keeper.lent) (sym next.1) ∙ c.in-Ok.ensures.lent)
    c.allot.new.self c.give_to.new.slots c.step.new.self c.number_of.result next.1 c.in-Ok-step.ensures.stored c.give_to.ensures.given c.give_to.ensures.back

pub returns-clause-lasts : goal.returns-clause-lasts
returns-clause-lasts c =
    let next = c.in-Ok.ensures.ok in
    subst (AreLast c.args.slots.now c.give_to.new.slots) (sym c.new-2.ensures)
    (asked_last c.args.journal.now c.args.call c.args.slots.now c.requires.tied c.requires.asks c.in-Ok.slot.0 c.recall.ensures.slotted next.0
    (ap (λ (m : Slotted). owner_at m.owners c.in-Ok.slot.0) (sym next.1) ∙ c.in-Ok.ensures.free)
    (ap (λ (m : Slotted). times c.in-Ok.slot.0 m.keeper.lent) (sym next.1) ∙ c.in-Ok.ensures.lent)
    c.allot.new.self c.give_to.new.slots c.number_of.result next.1 c.give_to.ensures.given c.give_to.ensures.back)
