use Rattle.std.proofs.Common.{◌∙◌, sym, subst}
use Rattle.zq_told.specs.declared.types.FacePlan.{FacePlan}
use Rattle.zq_told.specs.Rooms.{Books, HasRooms}
use Rattle.zq_told.proofs.Shown.{weaker, rooms_wider}
use Rattle.std.proofs.lemmas.List.Elements.{All-get_or}
use Rattle.zq_told.proofs.books.put_faces.Goals as goal

pub put_face-requires : goal.put_face-requires
put_face-requires c =
    let p : FacePlan = c.face-item.result in
    let now : Books = c.loop-face.books.entries in
    let was : Books = c.args.books.now.entries in
    let all = weaker (HasRooms was) (HasRooms now) p c.args.plan.now (rooms_wider was now (λ n q h. c.loop-face.invariant.rooms n q ∙ h)) c.requires in
    subst (HasRooms now) (sym c.face-item.is) (All-get_or (HasRooms now) c.args.plan.now c.loop-face.face-index p c.loop-face-test.true all)
