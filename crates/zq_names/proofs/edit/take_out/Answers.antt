use Rattle.std.proofs.Common.{◌≡◌, ◌<◌, ℕ, List, get_or, length, sym, ap, ◌∙◌, arith}
use Rattle.std.proofs.lemmas.List.{get_or_default}
use Rattle.zq_names.specs.Names.{slot, row, slot_text}
use Rattle.zq_names.proofs.Rows.{text_at-rows}
use Rattle.zq_names.proofs.Removal.{taken}
use Rattle.zq_names.proofs.edit.take_out.Goals as goal

number : (order : List ℕ) (at id : ℕ) → at < length order → id ≡ get_or order at id → get_or order at 0 ≡ id
number order at id lt is = get_or_default order at 0 id lt ∙ sym is

pub returns-clause-table : goal.returns-clause-table
returns-clause-table c =
    let r = c.requires in
    let u = c.remove.ensures.updates in
    rw c.remove-id.ensures.rest (taken _ _ _ _ _ r.table c.requires.in_range r.past_root r.lonely c.remove-id.ensures.number u.changed u.others).1

pub returns-clause-rows : goal.returns-clause-rows
returns-clause-rows c =
    let r = c.requires in
    let u = c.remove.ensures.updates in
    rw c.remove-id.ensures.rest (taken _ _ _ _ _ r.table c.requires.in_range r.past_root r.lonely c.remove-id.ensures.number u.changed u.others).0

pub returns-clause-text : goal.returns-clause-text
returns-clause-text c =
    let order = c.args.order.now in
    let nodes = c.args.nodes.now.slots in
    let lt : c.args.at < length order = omega (arith) in
    let number : get_or order c.args.at 0 ≡ c.remove-id.result = get_or_default order c.args.at 0 c.remove-id.result lt ∙ sym c.remove-id.ensures.number in
    sym (text_at-rows nodes order c.args.at lt ∙ ap (λ (j : ℕ). (row nodes j).text) number ∙ ap slot_text c.remove.ensures.value)

pub returns-clause-was : goal.returns-clause-was
returns-clause-was c = ap (slot c.args.nodes.now.slots) (number c.args.order.now c.args.at c.remove-id.result c.requires.in_range c.remove-id.ensures.number) ∙ c.remove.ensures.value

pub returns-clause-gone : goal.returns-clause-gone
returns-clause-gone c = ap (slot c.remove.new.self.slots) (number c.args.order.now c.args.at c.remove-id.result c.requires.in_range c.remove-id.ensures.number) ∙ c.remove.ensures.updates.changed

pub returns-clause-others : goal.returns-clause-others
returns-clause-others c j differ =
    let is = number c.args.order.now c.args.at c.remove-id.result c.requires.in_range c.remove-id.ensures.number in
    c.remove.ensures.updates.others j (λ same. differ (same ∙ sym is))
