use Rattle.std.proofs.Common.{◌∙◌, ap, sym}
use Rattle.zq_index.specs.Texts.{at_text, texts_of}
use Rattle.zq_told.specs.Rooms.{Shelf}
use Rattle.zq_told.proofs.Slotted.{inner, found_entry}
use Rattle.zq_told.proofs.slots.Slots.get.Goals as goal

pub returns-in-Some : goal.returns-in-Some
returns-in-Some c =
    let k = c.args.key.now in
    sym (found_entry k (texts_of c.self.inside.slots.entries) c.self.invariant ∙ ap inner (sym c.slot_at.ensures ∙ c.in-Some.is))
    ∙ ap (λ (s : Shelf). at_text k s.told) c.self.view_is

pub returns-in-None : goal.returns-in-None
returns-in-None c =
    let k = c.args.key.now in
    sym (found_entry k (texts_of c.self.inside.slots.entries) c.self.invariant ∙ ap inner (sym c.slot_at.ensures ∙ c.in-None.is))
    ∙ ap (λ (s : Shelf). at_text k s.told) c.self.view_is
