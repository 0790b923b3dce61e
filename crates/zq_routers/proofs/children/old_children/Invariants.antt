use Rattle.std.proofs.Common.{◌≡◌, take}
use Rattle.std.specs.List.{list_any}
use Rattle.std.specs.BTreeMap.{is_at}
use Rattle.std.specs.Ordering.{nat_cmp}
use Rattle.zq_message.specs.declared.message.Zid.{Zid}
use Rattle.zq_strategy.specs.Nets.{is_zid}
use Rattle.zq_routers.proofs.children.old_children.Given as goal

abbrev pub invariant-loop-zid : goal.invariant-loop-zid
invariant-loop-zid l = (zid : Zid) → list_any (is_at (nat_cmp zid.0)) l.ids.keys ≡ list_any (is_zid zid) (take l.zid-index l.zid-items)
