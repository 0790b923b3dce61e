use Rattle.std.proofs.Common.{◌∙◌, ◌+◌, ap, sym}
use Rattle.std.specs.Prelude.{if◌then◌else◌}
use Rattle.zq_store.specs.Stores.{size_all}
use Rattle.zq_store.proofs.stores.Stores.put.Goals as goal

pub invariant_of-self-2 : goal.invariant_of-self-2
invariant_of-self-2 c =
    let before = size_all c.self.inside.list.items in
    c.more_by-self-inside.ensures before (size_all c.put_at.new.list.items) c.self.invariant (c.in_ok-before.ensures.size ∙ ap (λ b. before + (if b then 0 else 1)) (sym c.is_some.ensures))
