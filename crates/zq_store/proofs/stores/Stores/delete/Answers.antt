use Rattle.std.proofs.Common.{◌∙◌, ◌+◌, ap}
use Rattle.std.specs.Prelude.{if◌then◌else◌}
use Rattle.zq_store.specs.Stores.{size_all}
use Rattle.zq_store.proofs.stores.Stores.delete.Goals as goal

pub invariant_of-self-2 : goal.invariant_of-self-2
invariant_of-self-2 c =
    let after = size_all c.delete_at.new.list.items in
    c.less_by-self-inside.ensures (size_all c.self.inside.list.items) after c.self.invariant (ap (λ b. after + (if b then 1 else 0)) c.is_some.ensures ∙ c.in_ok-before.ensures.size)
