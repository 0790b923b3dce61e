use Rattle.std.proofs.Common.{◌≡◌, take}
use Rattle.std.specs.Prelude.{map}
use Rattle.zq_machine.specs.Selecting.{target_of}
use Rattle.zq_egress.proofs.select.targets_of.Given as goal

abbrev pub invariant-loop-offer : goal.invariant-loop-offer
invariant-loop-offer l = l.targets.items ≡ map target_of (take l.offer-index l.offers)
