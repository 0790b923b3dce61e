use Rattle.std.proofs.Common.{◌≡◌, take}
use Rattle.std.specs.List.{filter_map}
use Rattle.std.specs.Option.{option_map}
use Rattle.zq_strategy.specs.Seating.{number, other_seated}
use Rattle.zq_routers.proofs.children.faces_of.Given as goal

abbrev pub invariant-loop-zid : goal.invariant-loop-zid
invariant-loop-zid l = l.faces.items ≡ filter_map (other_seated (option_map number l.from) l.seats) (take l.zid-index l.ids)
