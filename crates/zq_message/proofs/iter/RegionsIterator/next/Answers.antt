use Rattle.std.proofs.Common.{◌<◌}
use Rattle.zq_message.proofs.Small.{All-rest}
use Rattle.zq_message.proofs.iter.RegionsIterator.next.Goals as goal

pub invariant_of-self-2 : goal.invariant_of-self-2
invariant_of-self-2 g c = All-rest (λ k. k < 770) _ _ _ c.in_ok-i.ensures.steps c.self.invariant
