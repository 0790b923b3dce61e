use Rattle.std.proofs.Common.{◌≡◌, subst, [], true, get_or}
use Rattle.std.specs.List.{list_any}
use Rattle.zq_told.specs.declared.types.FaceUpdate.{FaceUpdate}
use Rattle.zq_told.specs.declared.types.Planned.{Planned}
use Rattle.zq_told.specs.Rooms.{ears_of}
use Rattle.zq_told.specs.Telling.{is_above, tell_face}
use Rattle.zq_told.proofs.Reaching.{reaches, face_above}
use Rattle.zq_told.proofs.books.plan_faces.Goals as goal

pub returns-in-Err-clause-no_free : goal.returns-in-Err-clause-no_free
returns-in-Err-clause-no_free c h =
    let d : FaceUpdate = c.due-item.result in
    let ears = ears_of c.args.books.now.entries in
    let P = λ (p : Planned). list_any is_above p.plan ≡ true in
    let f = tell_face c.args.way ears in
    reaches f P (face_above c.args.way ears) c.args.dues.now (record { plan = []; tellings = [] }) c.loop-due.due-index d c.loop-due-test.true
    (subst (λ x. P (f x (get_or c.args.dues.now c.loop-due.due-index d))) c.loop-due.invariant.planned (subst (λ e. P (f c.loop-due.planned e)) c.due-item.is (c.in-Err.ensures.no_free h)))
