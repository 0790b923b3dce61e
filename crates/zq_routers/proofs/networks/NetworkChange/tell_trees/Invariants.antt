use Rattle.std.proofs.Common.{◌≡◌, ◌++◌, ◌-◌, drop, length}
use Rattle.zq_message.specs.declared.message.Zid.{Zid}
use Rattle.zq_strategy.specs.Networks.{standing_by, trees_told_by}
use Rattle.zq_strategy.specs.Seating.{seated}
use Rattle.zq_routers.proofs.networks.NetworkChange.tell_trees.Given as goal

abbrev pub invariant-loop-i : goal.invariant-loop-i
invariant-loop-i l =
    let stands = standing_by l.self.own l.self.own_entries.now l.self.entries.now in
    let face = λ (zid : Zid). seated zid l.self.seats.now in
    l.tellings ++ trees_told_by stands face l.self.before.now l.self.net.now (drop l.i l.nodes) (drop l.i l.trees) ≡ trees_told_by stands face l.self.before.now l.self.net.now l.nodes l.trees

abbrev pub decreases-loop-i : goal.decreases-loop-i
decreases-loop-i l = length l.nodes - l.i
