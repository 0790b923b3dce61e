use Rattle.std.proofs.Common.{◌∙◌, ap, sym, subst, true≢false}
use Rattle.std.specs.Option.{is_some}
use Rattle.std.specs.Map.{keys_of}
use Rattle.zq_index.specs.Texts.{at_text, has_text, texts_of}
use Rattle.zq_told.specs.Rooms.{Shelf, entries_in, has_room}
use Rattle.zq_told.proofs.Slotted.{Slots, Sorted, back_fewer, back_none, back_sorted, free_told, held}
use Rattle.zq_told.proofs.slots.Slots.give_back.Goals as goal

pub invariant_of-self : goal.invariant_of-self
invariant_of-self c = subst Sorted (sym c.remove_slot.ensures) (back_sorted c.args.key.now (texts_of c.self.inside.slots.entries) c.self.invariant)

pub returns-then-is_room-clause-told : goal.returns-then-is_room-clause-told
returns-then-is_room-clause-told c =
    let k = c.args.key.now in
    ap entries_in c.remove_slot.ensures
    ∙ free_told k (texts_of c.self.inside.slots.entries) c.self.invariant (sym c.is_room.ensures ∙ c.if-is_room.true)
    ∙ ap (λ (s : Shelf). s.told) c.self.view_is

pub returns-then-is_room-clause-bare : goal.returns-then-is_room-clause-bare
returns-then-is_room-clause-bare c = λ h.
    let k = c.args.key.now in
    let es : Slots = texts_of c.self.inside.slots.entries in
    absurd (true≢false (sym h ∙ ap (λ (l : Slots). has_text k (keys_of l)) c.remove_slot.ensures ∙ back_none k es c.self.invariant))

pub returns-then-is_room-clause-fewer : goal.returns-then-is_room-clause-fewer
returns-then-is_room-clause-fewer c = λ q h.
    let k = c.args.key.now in
    let es : Slots = texts_of c.self.inside.slots.entries in
    sym (ap (λ (s : Shelf). has_room s q) c.self.view_is)
    ∙ back_fewer k es c.self.invariant q (sym (ap (λ (l : Slots). has_text q (keys_of l)) c.remove_slot.ensures) ∙ h)

pub returns-else-is_room-clause-bare : goal.returns-else-is_room-clause-bare
returns-else-is_room-clause-bare c = λ h.
    let k = c.args.key.now in
    let es : Slots = texts_of c.self.inside.slots.entries in
    ap (λ (s : Shelf). is_some (at_text k s.told)) (sym c.self.view_is)
    ∙ held k es c.self.invariant (sym c.is_room.ensures ∙ c.if-is_room.false) (ap (λ (s : Shelf). has_room s k) c.self.view_is ∙ h)
