use Rattle.std.proofs.Common.{◌≡◌, ◌∙◌, ap, subst, arith, length, take}
use Rattle.std.specs.List.{All}
use Rattle.std.proofs.Math.Seq.{take-length}
use Rattle.std.proofs.lemmas.List.Elements.{All-more}
use Rattle.zq_told.specs.declared.types.FacePlan.{FacePlan}
use Rattle.zq_told.specs.Rooms.{Books, IsBareAt}
use Rattle.zq_told.proofs.Shown.{weaker}
use Rattle.zq_told.proofs.books.give_back_faces.Goals as goal

pub loop-face-preserved : goal.loop-face-preserved
loop-face-preserved c =
    let p : FacePlan = c.face-item.result in
    let i = c.loop-face.face-index in
    let was : Books = c.loop-face.books.entries in
    let now : Books = c.give_back_face.new.books.entries in
    let before = weaker (IsBareAt was) (IsBareAt now) p (take i c.args.plan.now) c.give_back_face.ensures.others c.loop-face.invariant.bare in
    record {
      ears = c.give_back_face.ensures.ears ∙ c.loop-face.invariant.ears;
      bare = All-more (IsBareAt now) c.args.plan.now i p c.loop-face-test.true before (subst (IsBareAt now) c.face-item.is c.give_back_face.ensures.bare);
    }

pub returns-clause-bare : goal.returns-clause-bare
returns-clause-bare c =
    let full : c.loop-face.face-index ≡ length c.args.plan.now = omega (arith, c.loop-face-test.false, c.loop-face.auto.face-index-end) in
    subst (All (IsBareAt c.loop-face.books.entries)) (ap (λ i. take i c.args.plan.now) full ∙ take-length c.args.plan.now) c.loop-face.invariant.bare
