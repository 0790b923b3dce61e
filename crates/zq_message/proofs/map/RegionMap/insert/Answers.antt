use Rattle.std.proofs.Common.{◌<◌}
use Rattle.std.specs.Ordering.{nat_cmp}
use Rattle.std.proofs.lemmas.Map.Views.{All-keys-insert_entry}
use Rattle.zq_message.proofs.map.RegionMap.insert.Goals as goal

pub invariant_of-self : goal.invariant_of-self
invariant_of-self g c = rw (c.in-Ok.ensures.entries) (All-keys-insert_entry nat_cmp _ _ (λ k. k < 770) _ c.self.invariant c.region_to_index-i.ensures.bound)
