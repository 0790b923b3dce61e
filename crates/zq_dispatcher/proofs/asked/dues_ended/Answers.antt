use Rattle.std.proofs.Common.{◌≡◌, ◌∙◌, ap, subst, map, filter, fold, List, IfOk, None}
use Rattle.std.specs.Option.{option_copied}
use Rattle.zq_interests.specs.Interests.{interests_of, without_interest}
use Rattle.zq_told.specs.declared.types.FaceUpdate.{FaceUpdate}
use Rattle.zq_told.specs.Rooms.{ears_of}
use Rattle.zq_told.specs.Telling.{KeyDue}
use Rattle.zq_machine.specs.Neighbours.{with_dues}
use Rattle.zq_dispatcher.specs.Asking.{asking_in, with_own}
use Rattle.zq_dispatcher.specs.Dues.{row_as, was_told}
use Rattle.zq_dispatcher.proofs.AskedDues.{ended_are}
use Rattle.zq_dispatcher.proofs.asked.dues_ended.Goals as goal

pub returns : goal.returns
returns c core e opened same is =
    let face = c.args.face.0 in
    let ints = c.args.interests.now in
    let hats = c.args.hats.now in
    let asked = option_copied c.args.asked in
    let ears = ears_of c.args.ears.now in
    let dues =
    c.in_ok-dues.ensures
    ∙ ap (λ ks. map (row_as (asking_in (without_interest face c.args.id ints) face) face c.args.opened hats) (filter (was_told face ears) ks))
    (c.in_ok-put_owns_asked.ensures.joined ∙ ap (λ ks. fold (with_own None asked) ks (interests_of face ints)) c.in_ok-keys.ensures.keys)
    ∙ ended_are core ints face c.args.id c.in_ok-put_owns_asked.ensures.ordered c.args.opened opened hats same ears asked c.requires e is in
    subst (λ (ks : List KeyDue). IfOk c.one_face.result (λ (ds : List FaceUpdate). ds ≡ with_dues face ks)) dues c.one_face.ensures
