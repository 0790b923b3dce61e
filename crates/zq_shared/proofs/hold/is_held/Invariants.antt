use Rattle.std.proofs.Common.{◌≡◌, take}
use Rattle.zq_hold.specs.Slots.{times}
use Rattle.zq_shared.specs.Holding.{places}
use Rattle.zq_shared.proofs.hold.is_held.Given as goal

abbrev pub invariant-slots : goal.invariant-slots
invariant-slots l = times l.slot.0 (places (take l.i l.held)) ≡ 0
