use Rattle.std.proofs.Common.{◌∙◌, ap}
use Rattle.std.specs.List.{list_any}
use Rattle.std.specs.BTreeMap.{is_at}
use Rattle.std.specs.Ordering.{nat_cmp}
use Rattle.zq_strategy.proofs.Places.{next_id}
use Rattle.zq_routers.proofs.children.old_children.Goals as goal

pub loop-zid-preserved : goal.loop-zid-preserved
loop-zid-preserved c = λ zid.
    ap (list_any (is_at (nat_cmp zid.0))) c.in_ok-insert.ensures.keys ∙ next_id c.deref-zid-items.result.now c.loop-zid.zid-index _ c.loop-zid-test.true c.loop-zid.ids.keys c.loop-zid.invariant zid
