use Rattle.std.proofs.Common.{List, subst, sym}
use Rattle.std.proofs.lemmas.List.{take_more}
use Rattle.zq_names.specs.declared.node.ResourceId.{ResourceId}
use Rattle.zq_names.specs.Forgetting.{Drops}
use Rattle.zq_names.proofs.Forgetting.{Drops-more}
use Rattle.zq_names.proofs.forget.forget.Goals as goal

pub loop-holder-preserved : goal.loop-holder-preserved
loop-holder-preserved c =
    let holders = c.args.holders.now in
    let k = c.loop-holder.holder-index in
    let none : ResourceId = record { 0 = 0 } in
    let D : List ResourceId → Type 0 = λ (l : List ResourceId). Drops c.args.nodes.now.slots c.forget_at.new.nodes.slots c.args.id l in
    subst D (sym (take_more holders k none c.loop-holder-test.true)) (Drops-more _ _ _ _ _ _ c.loop-holder.invariant c.forget_at.ensures)
