use Rattle.std.proofs.Common.{◌≡◌, ◌++◌, take}
use Rattle.zq_strategy.specs.Tellings.{all_told_of}
use Rattle.zq_routers.proofs.networks.tell_standing.Given as goal

abbrev pub invariant-loop-key : goal.invariant-loop-key
invariant-loop-key l = l.tellings ≡ l.initial.tellings ++ all_told_of (take l.key-index l.standing) l.node l.face.0
