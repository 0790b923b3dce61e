use Rattle.std.proofs.Common.{◌∙◌, ap, get_or, sym, ℕ, List}
use Rattle.std.specs.BTreeSet.{insert_key}
use Rattle.std.specs.Ordering.{nat_cmp}
use Rattle.std.proofs.lemmas.List.Sums.{fold_more}
use Rattle.zq_message.specs.declared.message.FaceId.{FaceId}
use Rattle.zq_dispatcher.specs.Listeners.{with_number}
use Rattle.zq_dispatcher.proofs.listeners.put_faces.Goals as goal

pub loop-face-preserved : goal.loop-face-preserved
loop-face-preserved c =
    let faces : List FaceId = c.args.faces.now in
    let none : FaceId = record { 0 = 0 } in
    let index = c.loop-face.face-index in
    c.in_ok-insert.ensures.keys
    ∙ ap (λ (ns : List ℕ). insert_key nat_cmp ns (get_or faces index none).0) c.loop-face.invariant
    ∙ sym (fold_more with_number c.args.found.now.keys faces index none c.loop-face-test.true)
