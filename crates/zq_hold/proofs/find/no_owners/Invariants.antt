use Rattle.std.specs.Prelude.{◌≡◌, None, replicate}
use Rattle.zq_hold.proofs.find.no_owners.Given as goal

abbrev pub invariant-slots : goal.invariant-slots
invariant-slots l = l.owners.items ≡ replicate l._i None
