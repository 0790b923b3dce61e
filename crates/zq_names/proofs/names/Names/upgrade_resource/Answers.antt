use Rattle.std.proofs.Common.{refl, sym, subst, List}
use Rattle.zq_names.specs.Keeping.{ChangesAt}
use Rattle.zq_names.proofs.KeepingLemmas.{ChangesAt-change_at}
use Rattle.zq_names.specs.Names.{NameEntry, with_context}
use Rattle.zq_names.proofs.Table.{has_node, view_written, sound_written}
use Rattle.zq_names.proofs.names.Names.upgrade_resource.Goals as goal

pub index_mut-node-requires : goal.index_mut-node-requires
index_mut-node-requires c = has_node _ _ _ _ c.self.view_is c.self.invariant.table c.requires

pub invariant_of-self : goal.invariant_of-self
invariant_of-self c = sound_written _ _ _ c.index_mut-node.result.now _ c.index_mut-node.ensures.value refl refl refl (λ is. refl) c.self.invariant

pub returns-clause-all : goal.returns-clause-all
returns-clause-all c = rw (← c.self.view_is) (view_written _ _ _ c.index_mut-node.result.now _ with_context c.index_mut-node.ensures.value refl)

pub returns-clause-entries : goal.returns-clause-entries
returns-clause-entries c =
    let old = c.args.self.now in
    let C : List NameEntry → Type 0 = λ (ns : List NameEntry). ChangesAt old ns c.args.r.0 with_context in
    subst C (sym (returns-clause-all c)) (ChangesAt-change_at old c.args.r.0 with_context (λ e. refl) c.requires)
