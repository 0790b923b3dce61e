use Rattle.std.proofs.Common.{◌≡◌, ◌<◌, length, sym, ap, ◌∙◌, arith}
use Rattle.std.proofs.lemmas.Bool.Decides.{nat_tests}
use Rattle.std.proofs.lemmas.List.{nil_from_length}
use Rattle.zq_key.specs.Key.{is_key}
use Rattle.zq_names.specs.Names.{NameEntry, rows, row, slot_text}
use Rattle.zq_names.proofs.Adding.{Contains-map}
use Rattle.zq_names.proofs.Table.{has_node, entry_is, in_order}
use Rattle.zq_names.proofs.names.Names.keyexpr.Goals as goal

pub index-node-requires : goal.index-node-requires
index-node-requires c = has_node _ _ _ _ c.self.view_is c.self.invariant.table c.requires

pub returns-then-is_empty-clause-root : goal.returns-then-is_empty-clause-root
returns-then-is_empty-clause-root c =
    let none : length c.as_str-text.result.now ≡ 0 = grind (arith, nat_tests, c.if-is_empty.ensures) in
    ap (λ (e : NameEntry). e.text) (entry_is _ _ _ _ _ c.self.view_is c.requires c.index-node.ensures) ∙ sym c.as_str-text.ensures ∙ nil_from_length c.as_str-text.result.now none

pub returns-clause-text : goal.returns-clause-text
returns-clause-text c = c.as_str-text.ensures ∙ sym (ap (λ (e : NameEntry). e.text) (entry_is _ _ _ _ _ c.self.view_is c.requires c.index-node.ensures))

pub returns-clause-key : goal.returns-clause-key
returns-clause-key c =
    let nodes = c.self.inside.nodes.slots in
    let order = c.self.inside.order in
    let i = c.args.r.0 in
    let some : 0 < length c.as_str-text.result.now = grind (arith, nat_tests, c.if-is_empty.ensures) in
    let has = in_order nodes order _ i c.self.view_is c.requires in
    let same : c.as_str-text.result.now ≡ (row nodes i).text = c.as_str-text.ensures ∙ sym (ap slot_text c.index-node.ensures) in
    ap is_key same ∙ c.self.invariant.table.names.keys (row nodes i).text (Contains-map (λ (e : NameEntry). e.text) (rows nodes order) (row nodes i) (Contains-map (row nodes) order i has)) (omega (arith, some, ap length same))
