use Rattle.std.proofs.Common.{◌∙◌, subst, take}
use Rattle.zq_told.specs.declared.types.FacePlan.{FacePlan}
use Rattle.zq_told.specs.Rooms.{Books, HasRooms}
use Rattle.zq_told.proofs.Shown.{weaker, rooms_wider}
use Rattle.std.proofs.lemmas.List.Elements.{All-more}
use Rattle.zq_told.proofs.books.add_faces.Goals as goal

pub loop-face-preserved : goal.loop-face-preserved
loop-face-preserved c =
    let p : FacePlan = c.face-item.result in
    let i = c.loop-face.face-index in
    let was : Books = c.loop-face.books.entries in
    let now : Books = c.add_face.new.books.entries in
    let before = weaker (HasRooms was) (HasRooms now) p (take i c.args.plan.now) (rooms_wider was now c.in_ok-add_face.ensures.others) c.loop-face.invariant.ready in
    record {
      ears = c.in_ok-add_face.ensures.ears ∙ c.loop-face.invariant.ears;
      ready = All-more (HasRooms now) c.args.plan.now i p c.loop-face-test.true before (subst (HasRooms now) c.face-item.is c.in_ok-add_face.ensures.ready);
    }
