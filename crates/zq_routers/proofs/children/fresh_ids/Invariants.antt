use Rattle.std.proofs.Common.{◌≡◌, filter, not, take}
use Rattle.std.specs.List.{list_any}
use Rattle.zq_message.specs.declared.message.Zid.{Zid}
use Rattle.zq_strategy.specs.Nets.{children_of, is_zid}
use Rattle.zq_routers.proofs.children.fresh_ids.Given as goal

abbrev pub invariant-loop-zid : goal.invariant-loop-zid
invariant-loop-zid l = l.fresh.items ≡ filter (λ (zid : Zid). not (list_any (is_zid zid) (children_of l.old l.fn.root))) (take l.zid-index l.ids)
