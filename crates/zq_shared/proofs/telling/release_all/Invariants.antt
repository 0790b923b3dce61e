use Rattle.std.proofs.Common.{◌≡◌}
use Rattle.zq_shared.specs.Lending.{LetsGo}
use Rattle.zq_shared.proofs.telling.release_all.Given as goal

abbrev pub invariant-slots : goal.invariant-slots
invariant-slots l = record {
  go : LetsGo l.journal l.initial.slots l.slots l.lasts.ended l.i;
  room : l.lasts.most ≡ l.initial.lasts.most;
}
