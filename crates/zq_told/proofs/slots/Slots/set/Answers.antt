use Rattle.std.proofs.Common.{◌≡◌, ◌∙◌, ap, sym, subst, map}
use Rattle.std.specs.Option.{is_some}
use Rattle.zq_index.specs.Texts.{has_text, texts_of}
use Rattle.zq_told.specs.Rooms.{Shelf, entries_in, has_room}
use Rattle.zq_told.specs.Telling.{put_row}
use Rattle.zq_told.proofs.Slotted.{Slots, Sorted, set_sorted, set_told, set_rooms, unset_told}
use Rattle.zq_told.proofs.slots.Slots.set.Goals as goal

pub invariant_of-self : goal.invariant_of-self
invariant_of-self c = subst Sorted (sym c.set_slot.ensures) (set_sorted c.args.key.now (texts_of c.self.inside.slots.entries) c.self.invariant c.args.entry)

pub returns-then-is_some-clause-told : goal.returns-then-is_some-clause-told
returns-then-is_some-clause-told c =
    let k = c.args.key.now in
    let es : Slots = texts_of c.self.inside.slots.entries in
    let there = ap is_some (sym c.slot_at.ensures) ∙ sym c.is_some.ensures ∙ c.if-is_some.true in
    ap entries_in c.set_slot.ensures
    ∙ set_told k es c.self.invariant c.args.entry there
    ∙ ap (λ (s : Shelf). put_row s.told (k, c.args.entry)) c.self.view_is

pub returns-then-is_some-clause-rooms : goal.returns-then-is_some-clause-rooms
returns-then-is_some-clause-rooms c = λ q. ap (λ (es : Slots). has_text q (map (λ e. e.0) es)) c.set_slot.ensures ∙ set_rooms c.args.key.now (texts_of c.self.inside.slots.entries) c.self.invariant c.args.entry q ∙ ap (λ (s : Shelf). has_room s q) c.self.view_is

pub returns-else-is_some-clause-told : goal.returns-else-is_some-clause-told
returns-else-is_some-clause-told c =
    let k = c.args.key.now in
    let es : Slots = texts_of c.self.inside.slots.entries in
    let absent = ap is_some (sym c.slot_at.ensures) ∙ sym c.is_some.ensures ∙ c.if-is_some.false in
    subst (λ (s : Shelf). s.told ≡ put_row s.told (k, c.args.entry)) c.self.view_is
    (unset_told k es c.self.invariant c.args.entry absent (λ h. ap (λ (s : Shelf). has_room s k) c.self.view_is ∙ c.requires h))
