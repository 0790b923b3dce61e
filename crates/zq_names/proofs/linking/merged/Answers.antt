use Rattle.std.proofs.Common.{List, ◌++◌, ◌∷◌, [], take, get_or, subst, sym}
use Rattle.std.proofs.lemmas.List.{take_more}
use Rattle.zq_names.specs.declared.node.ResourceId.{ResourceId}
use Rattle.zq_names.specs.Linking.{HasBoth}
use Rattle.zq_names.proofs.LinkLemmas.{HasBoth-more}
use Rattle.zq_names.proofs.linking.merged.Goals as goal

pub loop-m-preserved : goal.loop-m-preserved
loop-m-preserved c =
    let former = c.args.former.now in
    let matches = c.args.matches.now in
    let k = c.loop-m.m-index in
    let none : ResourceId = record { 0 = 0 } in
    let T : List ResourceId → Type 0 = λ (l : List ResourceId). HasBoth former l c.add_member.new.members.items in
    let A : List ResourceId → Type 0 = λ (l : List ResourceId). HasBoth former (take k matches ++ get_or matches k none ∷ []) l in
    subst T (sym (take_more matches k none c.loop-m-test.true)) (subst A (sym c.in_ok-add_member.ensures.ok) (HasBoth-more _ _ _ _ c.loop-m.invariant))
