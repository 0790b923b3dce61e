use Rattle.std.proofs.Common.{◌≡◌, ◌∙◌, ap, subst, List, IfOk}
use Rattle.std.specs.List.{flat_map}
use Rattle.zq_told.specs.declared.types.FaceUpdate.{FaceUpdate}
use Rattle.zq_told.specs.Telling.{KeyDue}
use Rattle.zq_machine.specs.Neighbours.{with_dues}
use Rattle.zq_dispatcher.specs.Asked.{looked_due}
use Rattle.zq_dispatcher.proofs.AskedDues.{asked_are}
use Rattle.zq_dispatcher.proofs.asked.dues_asked.Goals as goal

pub returns : goal.returns
returns c core opened same =
    let face = c.args.face.0 in
    let ints = c.args.interests.now in
    let hats = c.args.hats.now in
    let entry = c.args.entry.now in
    let dues =
    c.in_ok-dues.ensures
    ∙ ap (flat_map (looked_due c.args.id entry face ints c.args.opened hats)) c.in_ok-keys.ensures.keys
    ∙ asked_are core ints face c.args.id c.in_ok-keys.ensures.ordered c.args.opened opened hats same entry in
    subst (λ (ks : List KeyDue). IfOk c.one_face.result (λ (ds : List FaceUpdate). ds ≡ with_dues face ks)) dues c.one_face.ensures
