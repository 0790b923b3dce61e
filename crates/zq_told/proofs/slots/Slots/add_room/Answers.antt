use Rattle.std.proofs.Common.{◌∙◌, ap, sym, subst, Some, None, cond}
use Rattle.std.specs.Option.{is_some}
use Rattle.std.specs.BTreeMap.{is_at}
use Rattle.zq_index.specs.Texts.{at_text, has_text, text_cmp, texts_of}
use Rattle.zq_told.specs.Rooms.{Shelf, entries_in, has_room}
use Rattle.zq_told.proofs.Slotted.{Slots, Sorted, added_sorted, added_told, added_room, room_is, still, itself}
use Rattle.std.specs.Map.{keys_of}
use Rattle.zq_told.proofs.slots.Slots.add_room.Goals as goal

pub returns-then-is_some-clause-room : goal.returns-then-is_some-clause-room
returns-then-is_some-clause-room c =
    ap (λ (s : Shelf). has_room s c.args.key.now) (sym c.self.view_is)
    ∙ sym (room_is c.args.key.now (texts_of c.self.inside.slots.entries))
    ∙ ap is_some (sym c.slot_at.ensures) ∙ sym c.is_some.ensures ∙ c.if-is_some.true

pub invariant_of-self-2 : goal.invariant_of-self-2
invariant_of-self-2 c = subst Sorted (sym c.in_ok-insert_room.ensures.ok) (added_sorted c.args.key.now (texts_of c.self.inside.slots.entries) c.self.invariant)

pub returns-clause-told : goal.returns-clause-told
returns-clause-told c =
    let absent = ap is_some (sym c.slot_at.ensures) ∙ sym c.is_some.ensures ∙ c.if-is_some.false in
    ap entries_in c.in_ok-insert_room.ensures.ok
    ∙ added_told c.args.key.now (texts_of c.self.inside.slots.entries) c.self.invariant absent
    ∙ ap (λ (s : Shelf). s.told) c.self.view_is

pub returns-clause-room : goal.returns-clause-room
returns-clause-room c =
    let k = c.args.key.now in
    let es : Slots = texts_of c.self.inside.slots.entries in
    ap (λ (l : Slots). has_text k (keys_of l)) c.in_ok-insert_room.ensures.ok
    ∙ added_room k es c.self.invariant k
    ∙ ap (λ b. is_some (cond b (Some None) (at_text k es))) (itself k)

pub returns-clause-others : goal.returns-clause-others
returns-clause-others c = λ q h.
    let k = c.args.key.now in
    let es : Slots = texts_of c.self.inside.slots.entries in
    ap (λ (l : Slots). has_text q (keys_of l)) c.in_ok-insert_room.ensures.ok
    ∙ added_room k es c.self.invariant q
    ∙ still (is_at (text_cmp k) q) (at_text q es) (room_is q es ∙ ap (λ (s : Shelf). has_room s q) c.self.view_is ∙ h)
