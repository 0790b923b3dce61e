use Rattle.std.proofs.Common.{◌≡◌, true, List, map, Result, Ok, Err, OnErr, IsSome, sym, ap, subst, ◌∙◌}
use Rattle.std.specs.List.{All, Contains}
use Rattle.std.proofs.lemmas.List.Elements.{All-weaker, All-contains}
use Rattle.zq_names.specs.declared.node.ResourceId.{ResourceId}
use Rattle.zq_names.specs.Names.{NameEntry, slot, slot_context, rows}
use Rattle.zq_names.specs.Linking.{HasContext, matched}
use Rattle.zq_names.proofs.Table.{has_node, entry_live}
use Rattle.zq_names.proofs.Same.{rows-same, IsSound-same}
use Rattle.zq_names.proofs.LinkLemmas.{same_slots, rows-linked, IsSound-linked, AllStay-matched}
use Rattle.zq_names.proofs.names.Names.match_resource.Goals as goal

pub link-requires-clause-live : goal.link-requires-clause-live
link-requires-clause-live c = has_node _ _ _ _ c.self.view_is c.self.invariant.table c.requires.node.live

pub link-requires-clause-members : goal.link-requires-clause-members
link-requires-clause-members c =
    let L : ResourceId → Type 0 = λ (m : ResourceId). IsSome (slot c.self.inside.nodes.slots m.0) in
    let A : List ResourceId → Type 0 = λ (l : List ResourceId). All L l in
    subst A (sym c.into_vec.ensures) (All-weaker (HasContext c.args.self.now) L (λ m has. has_node _ _ _ _ c.self.view_is c.self.invariant.table has.live) c.args.matches c.requires.members)

on_err : {X E : Type 0} (r : Result X E) (P : Type 0) → P → OnErr r P
on_err (Ok x) P holds = tt
on_err (Err e) P holds = holds

pub invariant_of-self : goal.invariant_of-self
invariant_of-self c = IsSound-same _ _ c.self.inside.order (same_slots _ _ c.in_err-link.ensures.err) c.self.invariant

pub returns-in_err-link-clause-err : goal.returns-in_err-link-clause-err
returns-in_err-link-clause-err c = on_err c.from_residual.result _ (rows-same _ _ c.self.inside.order (same_slots _ _ c.in_err-link.ensures.err) ∙ c.self.view_is)

pub invariant_of-self-2 : goal.invariant_of-self-2
invariant_of-self-2 c =
    let nodes = c.self.inside.nodes.slots in
    let has_context : (m : ResourceId) → HasContext c.args.self.now m → slot_context (slot nodes m.0) ≡ true = λ m has. sym (ap (λ (e : NameEntry). e.context) (entry_live nodes c.self.inside.order c.args.self.now m.0 c.self.view_is has.live)) ∙ has.context in
    let M : List ResourceId → Type 0 = λ (l : List ResourceId). (m : ResourceId) → Contains l m → slot_context (slot nodes m.0) ≡ true in
    IsSound-linked _ _ c.self.inside.order c.args.r _ c.in_ok-link.ensures.ok (has_context c.args.r c.requires.node)
    (subst M (sym c.into_vec.ensures) (λ m among. has_context m (All-contains (HasContext c.args.self.now) c.args.matches m c.requires.members among)))
    c.self.invariant

pub returns-clause-ok : goal.returns-clause-ok
returns-clause-ok c =
    let new = rows c.link.new.nodes.slots c.self.inside.order in
    let M : List ResourceId → Type 0 = λ (ms : List ResourceId). new ≡ map (matched c.args.r ms) c.args.self.now in
    subst M c.into_vec.ensures (rows-linked _ _ c.self.inside.order c.args.r _ c.in_ok-link.ensures.ok ∙ ap (map (matched c.args.r c.into_vec.result.items)) c.self.view_is)

pub returns-clause-kept : goal.returns-clause-kept
returns-clause-kept c = AllStay-matched c.args.r c.args.matches c.args.self.now _ (returns-clause-ok c)
