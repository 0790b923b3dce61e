use Rattle.std.proofs.Common.{◌≡◌, ℕ, List, sym, subst}
use Rattle.std.specs.BTreeMap.{is_at}
use Rattle.std.specs.Ordering.{nat_cmp}
use Rattle.zq_tables.specs.FaceIds.{without_id}
use Rattle.zq_tables.specs.FaceIndex.{IsIndex}
use Rattle.zq_tables.proofs.IdLemmas.{removed_absent}
use Rattle.zq_tables.proofs.IndexLemmas.{IsIndex-take, short_ids}
use Rattle.zq_tables.proofs.ids.Ids.take.Goals as goal

pub node_at-requires : goal.node_at-requires
node_at-requires c = short_ids c.self.inside.nodes.entries c.self.inside.by_node c.self.invariant

pub take_out-requires-clause-node : goal.take_out-requires-clause-node
take_out-requires-clause-node c = sym c.in-Some.ensures.node

pub invariant_of-self : goal.invariant_of-self
invariant_of-self c =
    let es = c.self.inside.nodes.entries in
    let new = c.take_out.new.row in
    let I : List (ℕ × ℕ) → Type 0 = λ (l : List (ℕ × ℕ)). IsIndex l new in
    subst I (sym c.drop_id.ensures.entries) (IsIndex-take es c.self.inside.by_node new c.args.id c.drop_id.ensures.gone c.self.invariant c.take_out.ensures)

pub returns-in_default-clause-entries : goal.returns-in_default-clause-entries
returns-in_default-clause-entries c =
    let es = c.self.inside.nodes.entries in
    let view = c.self.view_is in
    let same : without_id es c.args.id ≡ es = removed_absent (is_at (nat_cmp c.args.id)) es (sym c.in_default.ensures.node) in
    cc
