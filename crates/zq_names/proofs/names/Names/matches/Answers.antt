use Rattle.std.proofs.Common.{◌≡◌, List, sym, ap, subst, ◌∙◌}
use Rattle.std.specs.List.{Contains}
use Rattle.std.proofs.lemmas.Bool.{false≢true}
use Rattle.std.proofs.lemmas.List.Elements.{All-weaker, All-contains_itself}
use Rattle.zq_names.specs.declared.node.ResourceId.{ResourceId}
use Rattle.zq_names.specs.Names.{NameEntry, slot, slot_matches}
use Rattle.zq_names.specs.Linking.{HasContext}
use Rattle.zq_names.proofs.LinkLemmas.{no_members}
use Rattle.zq_names.proofs.Table.{has_node, entry_live, context_live}
use Rattle.zq_names.proofs.names.Names.matches.Goals as goal

pub index-node-requires : goal.index-node-requires
index-node-requires c = has_node _ _ _ _ c.self.view_is c.self.invariant.table c.requires

pub returns : goal.returns
returns c =
    let nodes = c.self.inside.nodes.slots in
    let order = c.self.inside.order in
    let ns = c.args.self.now in
    let entry = entry_live nodes order ns c.args.r.0 c.self.view_is c.requires in
    let matches : c.deref.result.now ≡ slot_matches (slot nodes c.args.r.0) = c.deref.ensures.value ∙ sym (ap slot_matches c.index-node.ensures) in
    let M : ResourceId → List ResourceId → Type 0 = λ m l. Contains l m in
    let contexts : (m : ResourceId) → Contains c.deref.result.now m → _ = λ m has. c.self.invariant.linked.contexts m c.args.r (subst (M m) matches has) in
    record {
      matches = matches ∙ sym (ap (λ (e : NameEntry). e.matches) entry);
      contexts = All-weaker (Contains c.deref.result.now) (HasContext ns) (λ m has. context_live nodes order ns m c.self.view_is c.self.invariant.table (contexts m has).1) c.deref.result.now (All-contains_itself c.deref.result.now);
      none = λ bare. no_members c.deref.result.now (λ m has. false≢true (sym bare ∙ ap (λ (e : NameEntry). e.context) entry ∙ (contexts m has).0));
    }
