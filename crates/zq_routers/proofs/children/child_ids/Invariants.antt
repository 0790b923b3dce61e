use Rattle.std.proofs.Common.{◌≡◌, take}
use Rattle.std.specs.List.{filter_map}
use Rattle.zq_strategy.specs.Nets.{child_at}
use Rattle.zq_routers.proofs.children.child_ids.Given as goal

abbrev pub invariant-loop-place : goal.invariant-loop-place
invariant-loop-place l = l.ids.items ≡ filter_map (child_at l.net) (take l.place-index l.places)
