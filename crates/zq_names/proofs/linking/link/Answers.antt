use Rattle.std.proofs.Common.{List, subst, refl}
use Rattle.zq_names.specs.declared.node.ResourceId.{ResourceId}
use Rattle.zq_names.specs.Linking.{HasBoth, Joins}
use Rattle.zq_names.proofs.LinkLemmas.{Links-written}
use Rattle.zq_names.proofs.linking.link.Goals as goal

pub returns-clause-ok : goal.returns-clause-ok
returns-clause-ok c =
    let roomy = c.make_room.new.nodes.slots in
    let met = c.add_to_all.new.nodes.slots in
    let former = c.in_ok-former.former.items in
    let J : List ResourceId → Type 0 = λ (l : List ResourceId). Joins roomy met c.args.r l in
    let F : List ResourceId → Type 0 = λ (l : List ResourceId). HasBoth l c.deref-2.result.now former in
    let M : List ResourceId → Type 0 = λ (l : List ResourceId). HasBoth c.index-node.result.now.former.items l former in
    Links-written c.args.nodes.now.slots roomy met c.args.r c.args.members.items c.index-node.result.now c.index_mut-node.result.now _ c.index-node.ensures c.in_ok-make_room.ensures.same
    (subst J c.deref-4.ensures.value c.add_to_all.ensures) c.index_mut-node.ensures.value refl refl refl refl
    (subst M c.deref-2.ensures.value (subst F c.deref.ensures.value c.in_ok-former.ensures))
