use Rattle.std.proofs.Common.{arith, refl, ap, sym, subst, List}
use Rattle.zq_names.specs.Keeping.{ChangesAt}
use Rattle.zq_names.proofs.KeepingLemmas.{ChangesAt-change_at}
use Rattle.zq_names.specs.Names.{NameEntry, with_hold}
use Rattle.zq_names.proofs.Table.{has_node, entry_is, view_written, sound_written}
use Rattle.zq_names.proofs.names.Names.hold.Goals as goal

pub index_mut-node-requires : goal.index_mut-node-requires
index_mut-node-requires c = has_node _ _ _ _ c.self.view_is c.self.invariant.table c.requires.live

pub invariant_of-self : goal.invariant_of-self
invariant_of-self c = sound_written _ _ _ c.index_mut-node.result.now _ c.index_mut-node.ensures.value refl refl refl (λ is. is) c.self.invariant

pub returns-clause-all : goal.returns-clause-all
returns-clause-all c = rw (← c.self.view_is) (view_written _ _ _ c.index_mut-node.result.now _ with_hold c.index_mut-node.ensures.value refl)

pub overflow_add-node : goal.overflow_add-node
overflow_add-node c =
    let same = ap (λ (e : NameEntry). e.holds) (entry_is _ _ _ _ _ c.self.view_is c.requires.live c.index_mut-node.ensures.value) in
    omega (arith, same, c.requires.room)

pub returns-clause-entries : goal.returns-clause-entries
returns-clause-entries c =
    let old = c.args.self.now in
    let C : List NameEntry → Type 0 = λ (ns : List NameEntry). ChangesAt old ns c.args.r.0 with_hold in
    subst C (sym (returns-clause-all c)) (ChangesAt-change_at old c.args.r.0 with_hold (λ e. refl) c.requires.live)
