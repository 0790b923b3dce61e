use Rattle.std.proofs.Common.{◌≡◌, ◌∷◌, [], ℕ, List, ap, ◌∙◌}
use Rattle.std.specs.List.{insert}
use Rattle.slab.specs.Slab.{Slab}
use Rattle.zq_names.specs.declared.node.Node.{Node}
use Rattle.zq_names.proofs.Fresh.{IsTable-root, IsLinked-root}
use Rattle.zq_names.proofs.names.Names.new.Goals as goal

pub invariant_of-result : goal.invariant_of-result
invariant_of-result c =
    let root = c.insert_reserved-root.result in
    let kept = c.in_ok-reserve.ensures.rest_kept in
    let empty : c.reserve.new.self.slots ≡ [] = ap (λ (s : Slab Node). s.slots) kept ∙ c.new-nodes.ensures.empty in
    let first : root ≡ 0 = c.insert_reserved-root.ensures.key ∙ ap (λ (s : Slab Node). s.vacant_key) kept ∙ c.new-nodes.ensures.first_key in
    let items : c.insert.new.self ≡ root ∷ [] = c.insert.ensures ∙ ap (λ (l : List ℕ). insert l 0 root) c.new-order.ensures in
    let updates = c.insert_reserved-root.ensures.updates in
    record {
      table = rw items (IsTable-root _ _ root _ empty first c.in_ok-text.ensures updates.changed updates.others).1;
      linked = IsLinked-root _ _ root _ empty c.new-3.ensures.items updates.changed updates.others;
    }
