use Rattle.std.proofs.Common.{◌∙◌, List, None, refl, ap, sym, subst}
use Rattle.std.specs.List.{list_any}
use Rattle.zq_machine.specs.declared.call.Step.{Step}
use Rattle.zq_machine.specs.Handing.{Handed}
use Rattle.zq_machine.specs.Waiting.{hands_reply}
use Rattle.zq_hold.specs.Owners.{Slotted, owner_at}
use Rattle.zq_shared.specs.Stored.{Stored, with_call}
use Rattle.zq_shared.specs.Ties.{AreWaiting, IsNearlyTied}
use Rattle.zq_shared.proofs.Moves.{handed_waits}
use Rattle.zq_shared.proofs.Ties.{told_nearly}
use Rattle.zq_shared.proofs.Asked.{still_flights, stored_flights}
use Rattle.zq_shared.specs.Sharing.{AreLast}
use Rattle.zq_shared.proofs.Lending.{lends_nearly, lends_waits, lent_last, replied_owns}
use Rattle.zq_shared.proofs.telling.tell.Goals as goal

pub hold_all-requires-clause-owns : goal.hold_all-requires-clause-owns
hold_all-requires-clause-owns c = (λ n r h.
    replied_owns c.args.journal.now c.args.slots.now c.requires.tied c.recall.ensures.slotted c.args.call n r
    (ap (λ (l : List Handed). list_any (hands_reply n r) l) (sym (c.as_slice.ensures ∙ ap (λ (t : Step). t.handed) c.in-Ok.ensures.step)) ∙ h))

pub release_ended-requires-clause-tied : goal.release_ended-requires-clause-tied
release_ended-requires-clause-tied c =
    let s = c.args.journal.now in
    let handed = c.as_slice.ensures ∙ ap (λ (t : Step). t.handed) c.in-Ok.ensures.step in
    subst (λ (x : Stored). IsNearlyTied None x c.hold_all.new.slots) (sym c.in-Ok.ensures.stored)
    (lends_nearly c.as_slice.result.now c.args.slots.now c.hold_all.new.slots c.args.seat.now c.hold_all.new.seat c.hold_all.ensures.lends (with_call s c.args.call)
    (told_nearly s c.args.call c.args.slots.now c.requires.tied c.requires.told.0 c.requires.told.1)
    (λ n r h. (handed_waits s c.args.call n r (ap (λ (l : List Handed). list_any (hands_reply n r) l) (sym handed) ∙ h)).0))

pub release_ended-requires-clause-quiet : goal.release_ended-requires-clause-quiet
release_ended-requires-clause-quiet c = (λ none.
    subst (λ (x : Stored). AreWaiting x c.hold_all.new.slots) (sym c.in-Ok.ensures.stored)
    (lends_waits c.as_slice.result.now c.args.slots.now c.hold_all.new.slots c.args.seat.now c.hold_all.new.seat c.hold_all.ensures.lends c.args.journal.now c.args.call (c.may_end-ends.ensures none) c.requires.tied.waits))

pub returns-clause-flights : goal.returns-clause-flights
returns-clause-flights c =
    stored_flights c.args.journal.now c.args.call c.step.new.self c.in-Ok.ensures.stored c.requires.told.1 c.args.slots.now c.release_ended.new.slots
    (λ k n owner. ap (λ (m : Slotted). owner_at m.owners k) c.release_ended.ensures.slots ∙ (ap (λ (m : Slotted). owner_at m.owners k) c.hold_all.ensures.lends.slots ∙ owner))

pub returns-in_err-held-clause-flights : goal.returns-in_err-held-clause-flights
returns-in_err-held-clause-flights c = still_flights c.args.journal.now c.args.journal.now refl c.args.slots.now c.args.slots.now refl

pub returns-in_default-clause-flights : goal.returns-in_default-clause-flights
returns-in_default-clause-flights c = still_flights c.args.journal.now c.step.new.self c.in_default.ensures.same c.args.slots.now c.args.slots.now refl

pub returns-clause-lasts : goal.returns-clause-lasts
returns-clause-lasts c =
    lent_last c.args.slots.now c.release_ended.new.slots c.hold_all.new.slots.keeper.lent c.release_ended.new.lasts.ended
    (subst (λ (m : Slotted). AreLast m c.release_ended.new.slots c.release_ended.new.lasts.ended) c.hold_all.ensures.lends.slots c.release_ended.ensures.lasts)
