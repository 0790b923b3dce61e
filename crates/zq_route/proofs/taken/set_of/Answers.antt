use Rattle.std.proofs.Common.{sym, subst, take}
use Rattle.std.proofs.lemmas.List.{take_more}
use Rattle.zq_route.specs.Taken.{IsSetOf}
use Rattle.zq_route.proofs.taken.set_of.Goals as goal

pub loop-face-preserved : goal.loop-face-preserved
loop-face-preserved c =
    let faces = c.args.faces.now in
    subst (λ l. IsSetOf l c.join.new.set) (sym (take_more faces c.loop-face.face-index 0 c.loop-face-test.true)) (c.in_ok-join.ensures.ok (take c.loop-face.face-index faces) c.loop-face.invariant)
