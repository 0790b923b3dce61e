use Rattle.std.proofs.Common.{◌≡◌, ◌-◌, drop, length}
use Rattle.zq_message.specs.declared.message.Zid.{Zid}
use Rattle.zq_strategy.specs.Networks.{any_gives}
use Rattle.zq_strategy.specs.Seating.{seated}
use Rattle.zq_routers.proofs.networks.any_gives.Given as goal

abbrev pub invariant-loop-i : goal.invariant-loop-i
invariant-loop-i l =
    let face = λ (zid : Zid). seated zid l.seats in
    any_gives face l.before l.net l.root (drop l.i l.nodes) (drop l.i l.trees) ≡ any_gives face l.before l.net l.root l.nodes l.trees

abbrev pub decreases-loop-i : goal.decreases-loop-i
decreases-loop-i l = length l.nodes - l.i
