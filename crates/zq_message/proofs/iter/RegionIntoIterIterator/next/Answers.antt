use Rattle.std.proofs.Common.{◌<◌, ap}
use Rattle.std.specs.Map.{keys_of}
use Rattle.zq_message.proofs.Small.{All-rest}
use Rattle.zq_message.proofs.iter.RegionIntoIterIterator.next.Goals as goal

pub invariant_of-self-2 : goal.invariant_of-self-2
invariant_of-self-2 g c = All-rest (λ k. k < 770) _ _ _ (ap keys_of c.in_ok-i.ensures.steps) c.self.invariant
